use Rattle.std.proofs.Common.{ℕ, List, subst}
use Rattle.std.specs.Prelude.{codes}
use Rattle.failure_lines.specs.Timed.{IsTimedText}
use Rattle.failure_lines.proofs.turned_away.turned_text.Goals as goal

pub returns : goal.returns
returns c =
    subst (λ (who : List ℕ). IsTimedText who (codes " turned away at ") c.args.second c.args.what.now c.timed_text.result.items) c.card_of.ensures.name c.timed_text.ensures

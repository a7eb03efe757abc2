use Rattle.std.proofs.Common.{ℕ, List, subst}
use Rattle.std.specs.Prelude.{codes}
use Rattle.failure_lines.specs.Timed.{IsTimedText}
use Rattle.failure_lines.proofs.refusals.refusal_line.Goals as goal

pub returns : goal.returns
returns c =
    subst (λ (why : List ℕ). IsTimedText (codes "line") (codes " refused at ") c.args.refused.now.second why c.timed_text.result.items) c.refusal_reason.ensures.reason c.timed_text.ensures

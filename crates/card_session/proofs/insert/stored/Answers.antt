use Rattle.std.proofs.Common.{◌≡◌, ◌∙◌, ℕ, max, true, false, ap, arith}
use Rattle.std.specs.Prelude.{nat_eq}
use Rattle.std.proofs.lemmas.Grind.{common_steps}
use Rattle.card_validity.specs.card_image.Fields.{card_days}
use Rattle.card_session.proofs.Stored.{stored_open, stored_closed}
use Rattle.card_session.proofs.insert.stored.Goals as goal

pub returns-then-judged-ne0-clause-stored : goal.returns-then-judged-ne0-clause-stored
returns-then-judged-ne0-clause-stored c = λ app x known.
    let unclosed : nat_eq c.args.judged.now.current.session.0 0 ≡ false = grind (arith, common_steps) in
    stored_open app x c.args.judged.now known c.last_use-used.result c.last_use-used.ensures unclosed

pub returns-clause-stored : goal.returns-clause-stored
returns-clause-stored c = λ app x known.
    let closed : nat_eq c.args.judged.now.current.session.0 0 ≡ true = grind (arith, common_steps) in
    c.max.ensures ∙ ap (λ (n : ℕ). max c.last_use-used.result n) c.word_second.ensures
    ∙ stored_closed app x c.args.judged.now known c.last_use-used.result c.tail.result c.last_use-used.ensures closed (c.tail.ensures.newest x (card_days app x) known.days)

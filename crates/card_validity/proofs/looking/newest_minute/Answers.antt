use Rattle.std.proofs.Common.{◌≡◌, ◌∙◌, ◌+◌, ◌/◌, ℕ, max, true, false, Some, None, ap, arith}
use Rattle.std.specs.Prelude.{nat_eq}
use Rattle.std.proofs.lemmas.Grind.{common_steps}
use Rattle.card_image.specs.Fields.{card_days}
use Rattle.card_validity.proofs.Newest.{newest_open, newest_closed}
use Rattle.card_validity.proofs.looking.newest_minute.Goals as goal

pub returns-then-session-ne0 : goal.returns-then-session-ne0
returns-then-session-ne0 c = λ app x known.
    let unclosed : nat_eq c.args.judged.now.current.session.0 0 ≡ false = grind (arith, common_steps) in
    newest_open app x c.args.judged.now known (c.last_use-mark.result.0 / 60) (ap (λ (n : ℕ). n / 60) c.last_use-mark.ensures) unclosed

pub returns-in-None : goal.returns-in-None
returns-in-None c = λ app x known.
    let closed : nat_eq c.args.judged.now.current.session.0 0 ≡ true = grind (arith, common_steps) in
    let mark = c.last_use-mark.result.0 / 60 in
    let same : mark ≡ max mark 0 = omega arith in
    same ∙ newest_closed app x c.args.judged.now known mark None (ap (λ (n : ℕ). n / 60) c.last_use-mark.ensures) closed (c.in-None.ensures.newest x (card_days app x) known.days)

pub returns-in-Some : goal.returns-in-Some
returns-in-Some c = λ app x known.
    let closed : nat_eq c.args.judged.now.current.session.0 0 ≡ true = grind (arith, common_steps) in
    let mark = c.last_use-mark.result.0 / 60 in
    let told = newest_closed app x c.args.judged.now known mark (Some c.in-Some.tail) (ap (λ (n : ℕ). n / 60) c.last_use-mark.ensures) closed (c.in-Some.ensures.newest x (card_days app x) known.days) in
    c.max.ensures ∙ ap (λ (n : ℕ). max mark (c.in-Some.tail.head.date.0 / 60 + n)) c.from.ensures ∙ told

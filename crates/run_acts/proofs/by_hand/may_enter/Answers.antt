use Rattle.std.proofs.Common.{◌≡◌, ◌∙◌, ℕ, Option, Some, None, ap, sym}
use Rattle.trace_model.specs.declared.Card.{Card}
use Rattle.log_model.specs.ByHand.{minute_on}
use Rattle.run_crew.specs.card_slots.Calls.{seat_in, card_in}
use Rattle.run_crew.specs.Cards.{session_of}
use Rattle.run_minutes.specs.Keeping.{session_at}
use Rattle.run_acts.specs.ByHand.{stop_in}
use Rattle.run_acts.proofs.OneCard.{none-there}
use Rattle.run_acts.proofs.by_hand.may_enter.Goals as goal

pub returns-in_default : goal.returns-in_default
returns-in_default c =
    let run = c.args.run.now in
    let none : card_in (seat_in run.keeper.cabin.slots.seats c.args.slot) ≡ None = sym c.card.ensures ∙ none-there c.card.result c.in_default.not-Some in
    ap (λ (o : Option Card). stop_in (session_at run.keeper.cabin.cards o) (minute_on run.next c.args.minute)) (sym none)

pub returns : goal.returns
returns c =
    let run = c.args.run.now in
    let there : card_in (seat_in run.keeper.cabin.slots.seats c.args.slot) ≡ Some c.in-Some.card = cc in
    c.may_hold.ensures
    ∙ ap (λ (m : ℕ). stop_in (session_of run.keeper.cabin.cards c.in-Some.card) m) c.minute_of.ensures
    ∙ ap (λ (o : Option Card). stop_in (session_at run.keeper.cabin.cards o) (minute_on run.next c.args.minute)) (sym there)

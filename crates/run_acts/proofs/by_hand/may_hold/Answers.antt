use Rattle.std.proofs.Common.{◌≡◌, ◌∙◌, ℕ, Option, Some, None, ap, sym}
use Rattle.std.specs.Prelude.{option_map}
use Rattle.trace_model.specs.declared.Card.{Card}
use Rattle.hand_model.specs.declared.held.EnterFault.{EnterFault}
use Rattle.hand_model.specs.Holding.{stopped_by}
use Rattle.log_model.specs.declared.lines.SlotFault.{SlotFault}
use Rattle.run_crew.specs.declared.cards.Accepted.{Accepted}
use Rattle.run_crew.specs.declared.cards.Cards.{Cards}
use Rattle.run_crew.specs.declared.cards.Known.{Known}
use Rattle.run_crew.specs.Cards.{session_of}
use Rattle.run_minutes.proofs.CardBooked.{none-there}
use Rattle.run_acts.specs.ByHand.{stop_in}
use Rattle.run_record.specs.Within.{stop_told}
use Rattle.run_acts.proofs.Cabins.{session-known}
use Rattle.run_acts.proofs.by_hand.may_hold.Goals as goal

pub returns-in_default : goal.returns-in_default
returns-in_default c =
    let is : c.of.result.now.accepted ≡ session_of c.args.cards.now c.args.card = ap (λ (k : Known). k.accepted) c.of.ensures ∙ sym (session-known c.args.cards.now c.args.card) in
    let none : session_of c.args.cards.now c.args.card ≡ None = sym is ∙ none-there c.of.result.now.accepted c.in_default.not-Some in
    ap (λ (o : Option Accepted). stop_in o c.args.minute) (sym none)

-- of the session of the card what it holds, and its newest minute
stop-is : (cards : Cards) (card : Card) (a : Accepted) (newest minute : ℕ) → session_of cards card ≡ Some a → newest ≡ a.session.minute → (f : Option EnterFault) → stopped_by a.held newest minute ≡ f → stop_in (session_of cards card) minute ≡ option_map stop_told f
stop-is cards card a newest minute there same f is =
    ap (λ (o : Option Accepted). stop_in o minute) there
    ∙ ap (λ (n : ℕ). option_map stop_told (stopped_by a.held n minute)) (sym same)
    ∙ ap (λ (g : Option EnterFault). option_map stop_told g) is

pub returns-in-Ok : goal.returns-in-Ok
returns-in-Ok c =
    let there : session_of c.args.cards.now c.args.card ≡ Some c.in-Some.accepted = session-known c.args.cards.now c.args.card ∙ sym (ap (λ (k : Known). k.accepted) c.of.ensures) ∙ c.in-Some.is in
    sym (stop-is c.args.cards.now c.args.card c.in-Some.accepted c.newest_minute-newest.result c.args.minute there c.newest_minute-newest.ensures None (sym c.in-Ok.ensures.answer))

pub returns-in-Err : goal.returns-in-Err
returns-in-Err c =
    let there : session_of c.args.cards.now c.args.card ≡ Some c.in-Some.accepted = session-known c.args.cards.now c.args.card ∙ sym (ap (λ (k : Known). k.accepted) c.of.ensures) ∙ c.in-Some.is in
    ap (λ (f : SlotFault). Some f) c.stop.ensures
    ∙ sym (stop-is c.args.cards.now c.args.card c.in-Some.accepted c.newest_minute-newest.result c.args.minute there c.newest_minute-newest.ensures (Some c.in-Err.fault) (sym c.in-Err.ensures.answer))

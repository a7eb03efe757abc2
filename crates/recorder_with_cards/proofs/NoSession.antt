-- A card that sits in a slot, not accepted, has no session (profile).
use Rattle.std.proofs.Common.{◌≡◌, ℕ, false, Option, Some, None, refl, subst}
use Rattle.activity_codec.specs.declared.values.Slot.{Slot}
use Rattle.activity_codec.specs.declared.values.Slot.TheVariants.{Driver, CoDriver}
use Rattle.trace_model.specs.declared.Card.{Card}
use Rattle.log_model.specs.Slots.{other_slot}
use Rattle.run_minutes.specs.card_slots.Calls.{seat_in, is_card}
use Rattle.run_acts.specs.run_crew.declared.cards.Accepted.{Accepted}
use Rattle.run_acts.specs.run_crew.declared.cabin.Cabin.{Cabin}
use Rattle.run_acts.specs.run_crew.Cards.{session_of}
use Rattle.run_acts.specs.run_crew.Cabin.{AnswersTo, SeatAnswers, CabinIsSound}
use Rattle.recorder_with_cards.proofs.Comes.{elsewhere-of}

bare-answers : (from : ℕ) (o : Option Accepted) → AnswersTo from None o → o ≡ None
bare-answers from None h = refl
bare-answers from (Some accepted) h = absurd h

seat-of : (from : ℕ) (cabin : Cabin) → CabinIsSound from None cabin → (slot : Slot) → SeatAnswers from cabin.cards (seat_in cabin.slots.seats slot)
seat-of from cabin h Driver = h.driver
seat-of from cabin h CoDriver = h.codriver

-- it sits in no other slot, and has none
pub seat-answers : (from : ℕ) (cabin : Cabin) (slot : Slot) (card : Card) → CabinIsSound from None cabin → seat_in cabin.slots.seats slot ≡ Some (record { card = card; newest = None }) →
    (is_card (seat_in cabin.slots.seats (other_slot slot)) card ≡ false) × (session_of cabin.cards card ≡ None)
seat-answers from cabin slot card h sits = (
  elsewhere-of slot card cabin.slots.seats sits h.apart,
  bare-answers from (session_of cabin.cards card) (subst (SeatAnswers from cabin.cards) sits (seat-of from cabin h slot)),
)

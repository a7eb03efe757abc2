-- What an action finds that nothing refuses.
use Rattle.std.proofs.Common.{◌≡◌, ℕ, Bool, true, false, cond, Option, Some, None, is_some, refl}
use Rattle.activity_codec.specs.declared.values.Slot.{Slot}
use Rattle.activity_codec.specs.declared.values.Slot.TheVariants.{Driver, CoDriver}
use Rattle.trace_model.specs.declared.Card.{Card}
use Rattle.trace_model.specs.declared.Action.{Action}
use Rattle.trace_model.specs.declared.Action.TheVariants.{Select, Insert, Withdraw, Tear, Place, Manual}
use Rattle.trace_model.specs.declared.Item.TheVariants.{Act}
use Rattle.run_outcome.specs.Room.{insertion_count}
use Rattle.run_acts.specs.declared.run.Run.{Run}
use Rattle.run_acts.specs.ByHand.{stopped_in}
use Rattle.recorder_with_cards.specs.Acting.{put_count, refused_by, IsSelected, IsFine}
use Rattle.log_model.specs.declared.lines.SlotFault.{SlotFault}
use Rattle.log_model.specs.declared.lines.SlotFault.TheVariants.{Occupied, Elsewhere}
use Rattle.log_model.specs.Slots.{refusal, other_slot, holds}
use Rattle.run_minutes.specs.card_slots.declared.seats.Seat.{Seat}
use Rattle.run_minutes.specs.card_slots.Calls.{Seats, seat_in, is_card, logged, sitting_of}

nothing-there : (seat : Option Seat) (slot : Slot) (rest : Option SlotFault) → cond (is_some (sitting_of seat)) (Some (Occupied slot)) rest ≡ None → seat ≡ None
nothing-there None slot rest is = refl
nothing-there (Some seat) slot rest is = absurd (cc)

behind : (seat : Option Seat) (slot : Slot) (rest : Option SlotFault) → cond (is_some (sitting_of seat)) (Some (Occupied slot)) rest ≡ None → rest ≡ None
behind None slot rest is = is
behind (Some seat) slot rest is = absurd (cc)

not-there : (seat : Option Seat) (card : Card) → cond (holds (sitting_of seat) card) (Some (Elsewhere card)) None ≡ None → is_card seat card ≡ false
not-there None card is = refl
not-there (Some seat) card is = by (is_card (Some seat) card) is
  where
    by : (b : Bool) → cond b (Some (Elsewhere card)) None ≡ None → b ≡ false
    by true h = absurd (cc)
    by false h = refl

-- the slot of an insertion is empty, and the other one has another card, or none
pub insert-empty : (seats : Seats) (slot : Slot) (card : Card) (speed : ℕ) → refusal (logged seats) speed (Insert slot card) ≡ None → seat_in seats slot ≡ None
insert-empty seats Driver card speed is = nothing-there seats.driver Driver (cond (holds (sitting_of seats.codriver) card) (Some (Elsewhere card)) None) is
insert-empty seats CoDriver card speed is = nothing-there seats.codriver CoDriver (cond (holds (sitting_of seats.driver) card) (Some (Elsewhere card)) None) is

pub insert-elsewhere : (seats : Seats) (slot : Slot) (card : Card) (speed : ℕ) → refusal (logged seats) speed (Insert slot card) ≡ None → is_card (seat_in seats (other_slot slot)) card ≡ false
insert-elsewhere seats Driver card speed is = not-there seats.codriver card (behind seats.driver Driver (cond (holds (sitting_of seats.codriver) card) (Some (Elsewhere card)) None) is)
insert-elsewhere seats CoDriver card speed is = not-there seats.driver card (behind seats.codriver CoDriver (cond (holds (sitting_of seats.driver) card) (Some (Elsewhere card)) None) is)

-- what nothing refuses with power is not refused
pub lit-refused : (has lit : Bool) (run : Run) (speed : ℕ) (action : Action) → has ≡ true → lit ≡ true → stopped_in run speed action ≡ None → refused_by has lit run speed action ≡ None
lit-refused true true run speed action h l is = is
lit-refused true false run speed action h l is = absurd (cc)
lit-refused false lit run speed action h l is = absurd (cc)

-- a selection does not fail
pub fine-selected : (action : Action) (failed : Bool) (old new : Run) → failed ≡ true → IsFine action failed → IsSelected action old new
fine-selected (Select slot pick) failed old new so fine = absurd (cc)
fine-selected (Insert slot card) failed old new so fine = tt
fine-selected (Withdraw slot) failed old new so fine = tt
fine-selected (Tear slot) failed old new so fine = tt
fine-selected (Place slot ending country region) failed old new so fine = tt
fine-selected (Manual slot pick minute) failed old new so fine = tt

-- nor is it refused
pub refused-selected : (run : Run) (speed : ℕ) (action : Action) (fault : SlotFault) → stopped_in run speed action ≡ Some fault → IsSelected action run run
refused-selected run speed (Select slot pick) fault is = absurd (cc)
refused-selected run speed (Insert slot card) fault is = tt
refused-selected run speed (Withdraw slot) fault is = tt
refused-selected run speed (Tear slot) fault is = tt
refused-selected run speed (Place slot ending country region) fault is = tt
refused-selected run speed (Manual slot pick minute) fault is = tt

-- an insertion counts as one
pub count-is : (action : Action) → insertion_count (Act action) ≡ put_count action
count-is (Select slot pick) = refl
count-is (Insert slot card) = refl
count-is (Withdraw slot) = refl
count-is (Tear slot) = refl
count-is (Place slot ending country region) = refl
count-is (Manual slot pick minute) = refl

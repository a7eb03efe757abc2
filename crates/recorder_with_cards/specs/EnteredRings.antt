-- What a card that enters writes in the rings of its unit (profile): its insertion, or nothing.
use Rattle.std.specs.Prelude.{◌≡◌, ◌⊎◌, ℕ, Bool, true, false, Option, Some, None, is_some}
use Rattle.activity_codec.specs.declared.values.Slot.{Slot}
use Rattle.trace_model.specs.declared.Card.{Card}
use Rattle.trace_model.specs.declared.Action.{Action}
use Rattle.trace_model.specs.declared.Action.TheVariants.{Select, Insert, Withdraw, Tear, Place, Manual}
use Rattle.tacho_types.specs.declared.places.PlaceEntry.{PlaceEntry}
use Rattle.run_minutes.specs.card_slots.Calls.{seat_in, card_in}
use Rattle.run_acts.specs.run_crew.Cabin.{number_of_seat}
pub use Rattle.run_acts.specs.Ringing.{IsPlaceNow}
use Rattle.run_acts.specs.Ringing.{WritesPlace, WithdrawsSo}
use Rattle.tach_media.specs.Medium.{State, HasCause}
use Rattle.run_acts.specs.message_model.Records.{insertion_ring}
use Rattle.run_acts.specs.unit_notes.declared.insertion.Insertion.{Insertion}
use Rattle.run_acts.specs.unit_notes.Entries.{insertion_bytes}
use Rattle.run_outcome.specs.declared.outcome.Outcome.{Outcome}
use Rattle.run_minutes.specs.declared.keeper.Keeper.{Keeper}
use Rattle.run_insertion.specs.declared.lines.Entering.{Entering}
use Rattle.run_insertion.specs.Entering.{Ending, Way, Unfit, Ahead, Fell, Unasked, Unnoted, Seated, Lost, ending_of}
use Rattle.run_insertion.specs.Entering.{insertion_of}
use Rattle.run_insertion.specs.Entered.{HasEntered}
use Rattle.run_acts.specs.run_note_record.Ringed.{LeavesRings, WritesImages, IsAddedAt, MayBeAdded}
use Rattle.run_minutes.specs.declared.keeper.Moment.{Moment}
use Rattle.run_acts.specs.declared.run.Run.{Run}
use Rattle.run_acts.specs.Acting.{IsSettled}
use Rattle.recorder_with_cards.specs.Accepting.{IsAccepted, IsEnteringNow, put_run}

-- an insertion is noted with this index; or the unit failed behind its begin
abbrev pub InsertsAt : (failed : Bool) → (index : ℕ) → Insertion → (old new : State) → Type 0
InsertsAt false index insertion old new = WritesImages (IsAddedAt index (insertion_bytes insertion)) old new
InsertsAt true index insertion old new = WritesImages (MayBeAdded insertion_ring (insertion_bytes insertion)) old new

-- BY WHAT BECAME OF IT
abbrev pub WritesBy : Ending → Entering → (failed : Bool) → (old new : State) → Type 0
WritesBy (Unfit fid place) e failed old new = LeavesRings old new
WritesBy (Ahead stored) e failed old new = LeavesRings old new
WritesBy Fell e failed old new = LeavesRings old new
WritesBy Unasked e failed old new = LeavesRings old new
WritesBy (Unnoted entered clock) e failed old new = WritesImages
    (MayBeAdded insertion_ring (insertion_bytes (insertion_of entered.look e))) old new
WritesBy (Seated entered clock entry) e failed old new = InsertsAt failed entry (insertion_of entered.look e) old new
WritesBy (Lost entered clock entry) e failed old new = InsertsAt failed entry (insertion_of entered.look e) old new

-- ACCEPT writes so, on a unit that tells its image
abbrev pub AcceptWrites : (unit unit_after card card_after : State) → Type 0
AcceptWrites unit unit_after card card_after = (e : Entering) (failed : Bool) (k v : Keeper) (noted noted_after : ℕ)
    (o p : Outcome) (way : Way) → is_some unit.image ≡ true → HasCause unit unit_after failed →
    HasEntered e failed k v noted noted_after o p unit unit_after card card_after way
    → WritesBy (ending_of way) e failed unit unit_after

-- ---- by the run

-- A CARD WAS ACCEPTED OR TURNED AWAY, and so the rings are written, on a unit that tells its image.
pub record IsJudgedRinging (e : Entering) (failed : Bool) (old new : Run) (before after : Outcome)
    (unit unit_after : State) : Type 0 where
  pub accepted : IsAccepted e old new before after
  pub writes : is_some unit.image ≡ true → WritesBy (ending_of accepted.way) e failed unit unit_after

-- now, in this slot
abbrev pub RingsJudging : Slot → Card → Moment → (speed : ℕ) → (failed : Bool) → (old new : Run)
    → (before after : Outcome) → (unit unit_after : State) → Type 0
RingsJudging slot card at speed failed old new before after unit unit_after = (e : Entering)
    × IsEnteringNow slot card at speed old e × IsJudgedRinging e failed old new before after unit unit_after

-- the card of a slot, if there is one
abbrev pub RingsAnew : Option Card → Slot → Moment → (speed : ℕ) → (failed : Bool) → (old new : Run)
    → (before after : Outcome) → (unit unit_after : State) → Type 0
RingsAnew None slot at speed failed old new before after unit unit_after = LeavesRings unit unit_after
RingsAnew (Some card) slot at speed failed old new before after unit unit_after = RingsJudging slot card at speed failed
    old new before after unit unit_after

-- A CARD WAS PUT INTO A SLOT: the minutes before are kept, which writes no ring, and then it is accepted or turned
-- away;
pub record InsertsBehind (slot : Slot) (card : Card) (at : Moment) (speed : ℕ) (failed : Bool) (old new : Run)
    (before after : Outcome) (unit unit_after : State) : Type 0 where
  pub between : Run
  pub told : Outcome
  pub settled_first : IsSettled at false (put_run slot card old) between before told
  pub judges : RingsJudging slot card at speed failed between new told after unit unit_after

-- or the unit failed as they were kept
abbrev pub RingsInserting : Slot → Card → Moment → (speed : ℕ) → (failed : Bool) → (old new : Run)
    → (before after : Outcome) → (unit unit_after : State) → Type 0
RingsInserting slot card at speed failed old new before after unit unit_after =
    ((failed ≡ true) × IsSettled at true (put_run slot card old) new before after × LeavesRings unit unit_after)
    ⊎ InsertsBehind slot card at speed failed old new before after unit unit_after

-- ---- an action

-- AN ACTION THAT IS CARRIED OUT writes the rings so, of a unit that tells its image: a card that is put in, withdrawn,
-- or whose holder enters a place
abbrev pub RingsDone : Action → Moment → (speed : ℕ) → (failed : Bool) → (old new : Run) → (before after : Outcome)
    → (unit unit_after : State) → Type 0
RingsDone (Select slot pick) at speed failed old new before after unit unit_after = LeavesRings unit unit_after
RingsDone (Insert slot card) at speed failed old new before after unit unit_after = RingsInserting slot card at speed
    failed old new before after unit unit_after
RingsDone (Withdraw slot) at speed failed old new before after unit unit_after = WithdrawsSo
    (card_in (seat_in old.keeper.cabin.slots.seats slot)) slot at failed old new before after unit unit_after
RingsDone (Tear slot) at speed failed old new before after unit unit_after = LeavesRings unit unit_after
RingsDone (Place slot ending country region) at speed failed old new before after unit unit_after =
    (entry : PlaceEntry) × IsPlaceNow ending country region old entry
    × WritesPlace (number_of_seat old.keeper.cabin.cards (seat_in old.keeper.cabin.slots.seats slot)) entry failed
    unit unit_after
RingsDone (Manual slot pick minute) at speed failed old new before after unit unit_after = LeavesRings unit unit_after

-- What calls write in the rings of the unit (profile): a place, a withdrawal, or nothing.
use Rattle.std.specs.Prelude.{◌≡◌, ◌⊎◌, ℕ, ◌-◌, ◌≤◌, Bool, true, false, Option, Some, None, List}
use Rattle.activity_codec.specs.declared.values.Slot.{Slot}
use Rattle.trace_model.specs.declared.Card.{Card}
use Rattle.tacho_types.specs.declared.card_number.FullCardNumber.{FullCardNumber}
use Rattle.tacho_types.specs.declared.numbers.Odometer.{Odometer}
use Rattle.tacho_types.specs.declared.places.PlaceEntry.{PlaceEntry}
use Rattle.tach_media.specs.Medium.{State}
use Rattle.run_events.specs.gated_ring.Change.{IsAdded}
use Rattle.run_events.specs.message_model.Records.{unit_place_ring}
use Rattle.unit_model.specs.minute_model.Span.{Span, travelled_of}
use Rattle.minute_rules.specs.Kept.{CountsSpan}
use Rattle.unit_notes.specs.note_model.Rings.{kind_of}
use Rattle.unit_model.specs.declared.layout.TheConstants.{HIGHEST_ODOMETER}
use Rattle.unit_notes.specs.Entries.{unit_place_bytes}
use Rattle.run_crew.specs.declared.cards.Accepted.{Accepted}
use Rattle.run_crew.specs.Cards.{session_of}
use Rattle.run_outcome.specs.Lines.{Listed}
use Rattle.run_outcome.specs.declared.outcome.Outcome.{Outcome}
use Rattle.log_model.specs.declared.lines.Break.{Break}
use Rattle.run_note_record.specs.Ringed.{LeavesRings, WritesImages, Seating, MayBeAdded, IsWithdrawnAt, MayBeWithdrawn}
use Rattle.run_minutes.specs.declared.keeper.Moment.{Moment}
use Rattle.run_minutes.specs.Minutes.{odometer_by}
use Rattle.run_acts.specs.declared.run.Run.{Run}
use Rattle.run_acts.specs.Acting.{Closing, Bare, Closed, Fell, IsSettled, IsClosed, IsClosedBehind, left_run}

-- ---- a place

-- a place that is entered now
pub record IsPlaceNow (ending : Bool) (country region : ℕ) (run : Run) (entry : PlaceEntry) : Type 0 where
  pub time : entry.time.0 ≡ run.next
  pub kind : entry.kind ≡ kind_of ending
  pub country_is : entry.country.0 ≡ country
  pub region_is : entry.region ≡ region
  pub odometer : (span : Span) → CountsSpan run.minutes span
      → entry.odometer.0 ≡ odometer_by run.keeper.odometer (travelled_of span)
  pub most : entry.odometer.0 ≤ HIGHEST_ODOMETER

-- an entry is added to the ring of places, or the unit failed in that
abbrev pub AddsPlace : (failed : Bool) → (head : List ℕ) → (old new : State) → Type 0
AddsPlace false head old new = WritesImages (IsAdded unit_place_ring head) old new
AddsPlace true head old new = WritesImages (MayBeAdded unit_place_ring head) old new

-- A PLACE IS NOTED of the accepted card with this number, if there is one; else no ring is written.
abbrev pub WritesPlace : Option FullCardNumber → PlaceEntry → (failed : Bool) → (old new : State) → Type 0
WritesPlace None entry failed old new = LeavesRings old new
WritesPlace (Some number) entry failed old new = AddsPlace failed (unit_place_bytes number entry) old new

-- ---- a withdrawal

-- where the insertion of an accepted card stands, by its session: how many insertions a run has noted since
abbrev pub seating_of : (noted : ℕ) → Accepted → Seating
seating_of noted a = record { index = a.entry; behind = noted - a.noted }

-- the odometer at the begin of the next second of a run, whose minutes stand for this span
abbrev pub odometer_of : Run → Span → Odometer
odometer_of run span = record { 0 = odometer_by run.keeper.odometer (travelled_of span) }

-- a withdrawal stands in the entry of its insertion, where that is there; or the unit failed in that
abbrev pub WithdrawalStands : (failed : Bool) → Seating → (second : ℕ) → Odometer → (old new : State) → Type 0
WithdrawalStands false s second odometer old new =
    WritesImages (IsWithdrawnAt s (record { 0 = second }) odometer) old new
WithdrawalStands true s second odometer old new =
    WritesImages (MayBeWithdrawn s (record { 0 = second }) odometer) old new

-- A WITHDRAWAL IS NOTED, with the odometer of now
abbrev pub WritesWithdrawal : Seating → (second : ℕ) → (failed : Bool) → Run → (old new : State) → Type 0
WritesWithdrawal s second failed run old new = (span : Span) → CountsSpan run.minutes span
    → WithdrawalStands failed s second (odometer_of run span) old new

-- the session of a card that has left its slot is closed, and its withdrawal is noted; or it had none, or fell
abbrev pub ClosesRings : Closing → Option Accepted → Moment → (failed : Bool) → Run → (old new : State) → Type 0
ClosesRings Bare session at failed run old new = LeavesRings old new
ClosesRings Closed None at failed run old new = ⊥
ClosesRings Closed (Some a) at failed run old new = WritesWithdrawal (seating_of run.noted a) at.second failed run old
    new
ClosesRings Fell session at failed run old new = LeavesRings old new

-- so it was closed, by value
pub record ClosesSo (card : Card) (slot : Slot) (at : Moment) (failed : Bool) (old new : Run)
    (breaks after : Listed Break) (unit unit_after : State) : Type 0 where
  pub closing : Closing
  pub closed : IsClosed card slot at old new breaks after closing
  pub rings : ClosesRings closing (session_of old.keeper.cabin.cards card) at failed old unit unit_after

-- A CARD IS WITHDRAWN, and so the rings are written, as its session was closed; or the unit failed in the minutes
-- before.
pub record ClosesBehind (card : Card) (slot : Slot) (at : Moment) (failed : Bool) (old new : Run)
    (before after : Outcome) (unit unit_after : State) : Type 0 where
  pub closed : IsClosedBehind card slot at old new before after
  pub rings : ClosesRings closed.closing (session_of closed.between.keeper.cabin.cards card) at failed closed.between
      unit unit_after

-- so the rings are behind a withdrawal: of an empty slot they stay
abbrev pub WithdrawsSo : Option Card → Slot → Moment → (failed : Bool) → (old new : Run) → (before after : Outcome)
    → (unit unit_after : State) → Type 0
WithdrawsSo None slot at failed old new before after unit unit_after = LeavesRings unit unit_after
WithdrawsSo (Some card) slot at failed old new before after unit unit_after =
    ((failed ≡ true) × IsSettled at true (left_run slot at.second old) new before after × LeavesRings unit unit_after)
    ⊎ ClosesBehind card slot at failed old new before after unit unit_after

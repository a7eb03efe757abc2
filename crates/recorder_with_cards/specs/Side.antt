-- THE AUXILIARY RECORDS of a run with cards (profile): what every image that a stop may leave of the unit shows beside
-- the minutes.
use Rattle.std.specs.Prelude.{List, ℕ}
use Rattle.unit_minutes.specs.unit_model.Image.{last_kept, odometer_at}
use Rattle.run_acts.specs.message_model.Records.{insertion_ring, unit_place_ring}
use Rattle.device_calls.specs.note_model.Noted.{insertions_of, places_of}
use Rattle.device_calls.specs.note_model.Odometer.{SpanFrom, AreSpansFrom, MayStore}
use Rattle.device_calls.specs.note_model.Rings.{RingShows, IsPlace, is_sure_insertion, is_sure_place}
use Rattle.device_calls.specs.safety_model.Recording.{Recording, told_of}
use Rattle.device_calls.specs.safety_model.Safe.{Devices}
use Rattle.device_calls.specs.safety_model.Side.{holder_of, notes_in}
use Rattle.run_acts.specs.run_note_record.Evented.{ShowsEventsOf}
pub use Rattle.run_acts.specs.run_note_record.Opened.{HasComeBefore}
use Rattle.run_acts.specs.run_note_record.Ringed.{IsInsertionOf}
pub use Rattle.run_acts.specs.run_note_record.Ringed.{TellsAtStart}

-- an image of the unit shows the run's auxiliary records
pub record ShowsSide (r : Recording) (began now : Devices) (x : List ℕ) : Type 0 where
  -- The odometers with which the power spans began, and the one that is stored.
  pub spans : List SpanFrom
  pub are_spans : AreSpansFrom r.rule r.log (told_of r) (odometer_at r.unit) (last_kept r.unit) spans
  pub odometer : MayStore r.rule (odometer_at r.unit) (last_kept r.unit) spans (last_kept x) (odometer_at x)
  -- Insertions with their withdrawals, and places. The vehicle that the first insertion of each card tells as the one
  -- before is that of its image at the start.
  pub insertions : RingShows insertion_ring (is_sure_insertion r.log spans (holder_of r))
      (IsInsertionOf r spans began now) (insertions_of (notes_in r)) r.unit x
  pub places : RingShows unit_place_ring (is_sure_place r.log spans (holder_of r)) (IsPlace r.log spans (holder_of r))
      (places_of (notes_in r)) r.unit x
  -- Events and faults, by the session times that were found open on the cards: the first of each card is that of its
  -- image at the start, and of a card on which no call failed, nor on the unit, each is that of the use which the
  -- insertion before has left: its second, if the card was not withdrawn, and none if it was.
  pub events : ShowsEventsOf r began now x

-- SO DOES EACH IMAGE of the unit that a stop may leave.
abbrev pub ShowTheSide : Recording → (began now : Devices) → Type 0
ShowTheSide r began now = (x : List ℕ) → now.unit.may_leave x → ShowsSide r began now x

-- An image that shows the events, the rings and the odometer of a recording shows its auxiliary records.
use Rattle.std.proofs.Common.{ℕ, List}
use Rattle.unit_minutes.specs.gated_ring.Ring.{PointsInside}
use Rattle.run_acts.specs.message_model.Records.{insertion_ring, unit_place_ring, speed_ring}
use Rattle.unit_minutes.specs.unit_model.Decoding.{Decodes}
use Rattle.unit_minutes.specs.unit_model.Image.{last_kept, odometer_at}
use Rattle.unit_minutes.proofs.Beside.{passes_beside}
use Rattle.device_calls.specs.note_model.Odometer.{SpanFrom, AreSpansFrom, MayStore}
use Rattle.device_calls.specs.safety_model.Recording.{Recording, told_of}
use Rattle.device_calls.specs.safety_model.Safe.{Devices}
use Rattle.run_acts.specs.run_note_record.Evented.{ShowsEventsOf}
use Rattle.run_acts.specs.run_note_record.Ringed.{ShowsRingsOf}
use Rattle.recorder_with_cards.specs.Side.{ShowsSide}

-- the pointers of a unit that decodes point inside its rings
pub insertions-inside : (x : List ℕ) → Decodes x → PointsInside insertion_ring x
insertions-inside x decodes = (passes_beside x decodes).insertions

pub places-inside : (x : List ℕ) → Decodes x → PointsInside unit_place_ring x
places-inside x decodes = (passes_beside x decodes).places

pub speeds-inside : (x : List ℕ) → Decodes x → PointsInside speed_ring x
speeds-inside x decodes = (passes_beside x decodes).speeds

pub side-shown : (r : Recording) (began now : Devices) (x : List ℕ) → Decodes r.unit → ShowsEventsOf r began now x → (spans : List SpanFrom) → AreSpansFrom r.rule r.log (told_of r) (odometer_at r.unit) (last_kept r.unit) spans →
    MayStore r.rule (odometer_at r.unit) (last_kept r.unit) spans (last_kept x) (odometer_at x) → ShowsRingsOf r spans began now x → ShowsSide r began now x
side-shown r began now x decodes events spans are stored rings = record {
  spans = spans;
  are_spans = are;
  odometer = stored;
  insertions = rings.insertions (insertions-inside r.unit decodes);
  places = rings.places (places-inside r.unit decodes);
  events = events;
}

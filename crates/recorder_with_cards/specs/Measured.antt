-- Of which odometer values the cards' vehicle entries tell behind a run with cards (profile).
use Rattle.std.specs.Prelude.{List, ℕ}
use Rattle.trace_model.specs.declared.Card.{Card}
use Rattle.tach_media.specs.Medium.{State}
use Rattle.device_calls.specs.card_image.Own.{own_sizes, IsOwnValid}
use Rattle.device_calls.specs.note_model.Odometer.{SpanFrom, AreSpansFrom}
use Rattle.unit_minutes.specs.unit_model.Image.{last_kept, odometer_at}
use Rattle.device_calls.specs.safety_model.Recording.{Recording, card_image, told_of}
use Rattle.device_calls.specs.safety_model.Safe.{Devices, card_of}
use Rattle.run_minutes.specs.run_devices.Measured.{AreMeasured, vehicles_by}
use Rattle.run_acts.specs.run_note_record.Moved.{IsPutIn, moves_in}
use Rattle.run_acts.specs.run_note_record.OnCards.{IsReadingOf}

-- the vehicle entries of an image of a card: the odometer at the begin of each stood so in one of these power spans, as
-- the minute in which it begins ended, or before a second of a later minute in which the card was put in; or the entry
-- goes on from one at the start. And the odometer at its end stood so, as some minute ended or before such a second, or
-- it is that of the one from which it goes on
abbrev pub MeasuresVehicles : Recording → List SpanFrom → Card → (x : List ℕ) → Type 0
MeasuresVehicles r spans c x = AreMeasured (IsReadingOf spans (IsPutIn (moves_in r.log r.trace) c))
    (vehicles_by (own_sizes (card_image r c)) (card_image r c)) (vehicles_by (own_sizes (card_image r c)) x)

-- so do those of each image that a stop may leave of a card that was valid at the start
abbrev pub KeepsMeasured : Recording → List SpanFrom → Card → State → Type 0
KeepsMeasured r spans c card = IsOwnValid (card_image r c) → (x : List ℕ) → card.may_leave x
    → MeasuresVehicles r spans c x

-- EACH CARD TELLS OF ODOMETERS AS THEY STOOD in the run's power spans, whatever calls failed.
pub record MeasureTheirVehicles (r : Recording) (now : Devices) : Type 0 where
  pub spans : List SpanFrom
  pub are_spans : AreSpansFrom r.rule r.log (told_of r) (odometer_at r.unit) (last_kept r.unit) spans
  pub measures : (c : Card) → KeepsMeasured r spans c (card_of now c)

-- What the cards show of the places that were entered in a run with cards (profile).
use Rattle.std.specs.Prelude.{ℕ, List}
use Rattle.trace_model.specs.declared.Card.{Card}
use Rattle.tach_media.specs.Medium.{State}
use Rattle.unit_minutes.specs.gated_ring.Ring.{IsDense}
use Rattle.device_calls.specs.card_image.Own.{IsOwnValid}
use Rattle.device_calls.specs.note_model.Odometer.{SpanFrom, AreSpansFrom}
use Rattle.device_calls.specs.note_model.Noted.{places_of}
use Rattle.device_calls.specs.note_model.Rings.{RingShows}
use Rattle.unit_minutes.specs.unit_model.Image.{last_kept, odometer_at}
use Rattle.device_calls.specs.safety_model.Recording.{Recording, card_image, told_of}
use Rattle.device_calls.specs.safety_model.Safe.{Devices, card_of}
use Rattle.device_calls.specs.safety_model.Side.{notes_in}
use Rattle.run_acts.specs.run_note_record.OnCards.{places_in, places_on, IsPlaceOn, is_sure_on}

-- an image of a card shows the places that this card entered, behind those at the start, in their order; and its ring
-- is dense, where it was so at the start
pub record ShowsPlaces (r : Recording) (spans : List SpanFrom) (c : Card) (x : List ℕ) : Type 0 where
  pub shows : RingShows (places_in (card_image r c)) (is_sure_on r.log) (IsPlaceOn spans)
      (places_on c (places_of (notes_in r))) (card_image r c) x
  pub dense : IsDense (places_in (card_image r c)) (card_image r c) → IsDense (places_in (card_image r c)) x

-- so does each that a stop may leave of a card that was valid at the start
abbrev pub KeepsPlaces : Recording → List SpanFrom → Card → State → Type 0
KeepsPlaces r spans c card = IsOwnValid (card_image r c) → (x : List ℕ) → card.may_leave x
    → ShowsPlaces r spans c x

-- EACH CARD SHOWS ITS PLACES, with the odometers of the run's power spans.
pub record ShowTheirPlaces (r : Recording) (now : Devices) : Type 0 where
  pub spans : List SpanFrom
  pub are_spans : AreSpansFrom r.rule r.log (told_of r) (odometer_at r.unit) (last_kept r.unit) spans
  pub shows : (c : Card) → KeepsPlaces r spans c (card_of now c)

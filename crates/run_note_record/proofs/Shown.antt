-- At the end of a run its rings are shown.
use Rattle.std.proofs.Common.{◌≡◌, ℕ, List, sym, subst, ◌⊎◌}
use Rattle.tach_media.specs.card_layout.Fields.{field_at}
use Rattle.run_devices.specs.trace_model.declared.Card.{Card}
use Rattle.run_devices.specs.card_image.Fields.{file_bytes, newest_vehicle}
use Rattle.run_devices.specs.card_image.Own.{own_sizes, own_number}
use Rattle.run_events.specs.message_model.Records.{insertion_ring, unit_place_ring}
use Rattle.run_devices.specs.log_model.Log.{RunLog}
use Rattle.run_devices.specs.note_model.Noted.{Note, insertions_of, places_of, InsertionNote}
use Rattle.run_devices.specs.note_model.Rings.{Holder, RingShows, IsInsertion, IsPlace, is_sure_insertion, is_sure_place}
use Rattle.run_devices.specs.safety_model.Safe.{Devices, card_of}
use Rattle.run_devices.specs.safety_model.Side.{identification_widths, holder_of, IsPrevious, TellsVehicle}
use Rattle.run_devices.specs.trace_model.Trace.{TraceSecond}
use Rattle.run_devices.specs.log_model.Course.{ToldSecond}
use Rattle.run_devices.specs.note_model.Odometer.{SpanFrom}
use Rattle.run_note_record.specs.Opened.{HasComeBefore}
use Rattle.run_events.proofs.run_rings.Standing.{ring-shows}
use Rattle.run_devices.specs.safety_model.Recording.{card_image, Recording, told_of}
use Rattle.run_devices.specs.run_promise.Found.{found_of}
use Rattle.run_note_record.specs.OnCards.{places_in, places_on, IsPlaceOn, is_sure_on, HasPlaces}
use Rattle.run_note_record.specs.Ringed.{holder_in, IsInsertionIn, IsPlaceIn, sure_insertion, sure_place, HasRing, notes_in, RingsAreShown, PlacesAreShown}

-- a holder by an image
holder-by : List ℕ → Holder
holder-by x = record {
  surname = field_at identification_widths 6 (file_bytes (own_sizes x) 0x0520 x);
  first_names = field_at identification_widths 7 (file_bytes (own_sizes x) 0x0520 x);
  number = own_number x;
  expiry = field_at identification_widths 5 (file_bytes (own_sizes x) 0x0520 x);
}

-- the recording as it is, in place of what it began with and how far it has gone
abbrev ShownBy : Recording → (holder : Card → Holder) (start : Card → List ℕ) (began : Card → ℕ) (told : List ToldSecond) (trace : List TraceSecond) (log : RunLog) (spans : List SpanFrom) (now : Devices) (notes : List InsertionNote) (unit x : List ℕ) → Type 0
ShownBy r holder start began told trace log spans now notes unit x =
    RingShows insertion_ring (is_sure_insertion log spans holder)
    (λ n e. IsInsertion log spans holder
    (λ c registration time. IsPrevious r (began c) (card_of now c) registration time × (TellsVehicle r (newest_vehicle (own_sizes (start c)) (start c)) registration time ⊎ HasComeBefore told trace c n.accepted.second)) n e)
    notes unit x

pub rings-shown : (began now : Devices) → RingsAreShown began now
unfolding holder-by
rings-shown began now o log spans notes seats v r unit cards logs traces tells trace clocks x left = record {
  insertions = λ ring. let was = (v.insertions (subst (HasRing insertion_ring) unit ring) x left).shows in
      subst (λ (l : RunLog). ShownBy r (holder_of r) (card_image r) (λ c. (card_of began c).clock) (told_of r) r.trace l spans now (insertions_of (notes_in r.log r.trace)) r.unit x) (sym logs)
      (subst (λ (n : List Note). ShownBy r (holder_of r) (card_image r) (λ c. (card_of began c).clock) (told_of r) r.trace log spans now (insertions_of n) r.unit x) trace
      (subst (λ (u : List ℕ). ShownBy r (holder_of r) (card_image r) (λ c. (card_of began c).clock) (told_of r) r.trace log spans now (insertions_of notes) u x) (sym unit)
      (subst (λ (ts : List ToldSecond). ShownBy r (holder_of r) (card_image r) (λ c. (card_of began c).clock) ts r.trace log spans now (insertions_of notes) o.origin.recording.unit x) (sym tells)
      (subst (λ (ss : List TraceSecond). ShownBy r (holder_of r) (card_image r) (λ c. (card_of began c).clock) o.told ss log spans now (insertions_of notes) o.origin.recording.unit x) (sym traces)
      (subst (λ (h : Card → Holder). ShownBy r h (card_image r) (λ c. (card_of began c).clock) o.told o.trace log spans now (insertions_of notes) o.origin.recording.unit x) holders
      (subst (λ (images : Card → List ℕ). ShownBy r (holder_in o.origin) images (λ c. (card_of began c).clock) o.told o.trace log spans now (insertions_of notes) o.origin.recording.unit x) starting
      (subst (λ (t : Card → ℕ). ShownBy r (holder_in o.origin) (card_image o.origin.recording) t o.told o.trace log spans now (insertions_of notes) o.origin.recording.unit x) starts
      (ring-shows (sure_insertion o.origin log spans) (IsInsertionIn o log spans now) insertion_ring (insertions_of notes) o.origin.recording.unit x was.more was.carries was.stand was.few))))))));
  places = λ ring. let was = v.places (subst (HasRing unit_place_ring) unit ring) x left in
      subst (λ (l : RunLog). RingShows unit_place_ring (is_sure_place l spans (holder_of r)) (IsPlace l spans (holder_of r)) (places_of (notes_in r.log r.trace)) r.unit x) (sym logs)
      (subst (λ (n : List Note). RingShows unit_place_ring (is_sure_place log spans (holder_of r)) (IsPlace log spans (holder_of r)) (places_of n) r.unit x) trace
      (subst (λ (u : List ℕ). RingShows unit_place_ring (is_sure_place log spans (holder_of r)) (IsPlace log spans (holder_of r)) (places_of notes) u x) (sym unit)
      (subst (λ (h : Card → Holder). RingShows unit_place_ring (is_sure_place log spans h) (IsPlace log spans h) (places_of notes) o.origin.recording.unit x) holders
      (ring-shows (sure_place o.origin log spans) (IsPlaceIn o.origin log spans) unit_place_ring (places_of notes) o.origin.recording.unit x was.more was.carries was.stand was.few))));
}
  where
    holders : holder_in o.origin ≡ holder_of r
    holders = λ i c. holder-by (sym (cards c) i)

    starts : ◌≡◌ {A = Card → ℕ} (λ c. (found_of o.origin.found c).began) (λ c. (card_of began c).clock)
    starts = λ i c. clocks c i

    starting : ◌≡◌ {A = Card → List ℕ} (card_image o.origin.recording) (card_image r)
    starting = λ i c. sym (cards c) i

pub places-shown : (began now : Devices) → PlacesAreShown began now
places-shown began now o log spans notes seats v r cards logs trace c has x left =
    let was = v.on_cards c (subst HasPlaces (cards c) has) x left in
    subst (λ (l : RunLog). RingShows (places_in (card_image r c)) (is_sure_on l) (IsPlaceOn spans) (places_on c (places_of (notes_in r.log r.trace))) (card_image r c) x) (sym logs)
    (subst (λ (n : List Note). RingShows (places_in (card_image r c)) (is_sure_on log) (IsPlaceOn spans) (places_on c (places_of n)) (card_image r c) x) trace
    (subst (λ (i : List ℕ). RingShows (places_in i) (is_sure_on log) (IsPlaceOn spans) (places_on c (places_of notes)) i x) (sym (cards c))
    (ring-shows (is_sure_on log) (IsPlaceOn spans) (places_in (card_image o.origin.recording c)) (places_on c (places_of notes)) (card_image o.origin.recording c) x was.more was.carries was.stand was.few)))

-- What the bytes of an insertion and of a place tell, as note_model has an entry stand for a note.
use Rattle.std.proofs.Common.{◌≡◌, ◌∙◌, ℕ, ◌<◌, ◌^◌, None, List, [], length, refl, ap}
use Rattle.std.specs.Prelude.{slice_index_or}
use Rattle.tach_media.specs.card_layout.Fields.{field_at, number_in}
use Rattle.tach_media.proofs.card_layout.Cuts.{cut-joined}
use Rattle.byteorder.specs.Numbers.{length-bytes_high_first}
use Rattle.run_events.specs.activity_codec.Words.{slot_number}
use Rattle.run_devices.specs.trace_model.declared.Card.{Card}
use Rattle.run_devices.specs.tacho_types.CardNumber.{card_number_bytes}
use Rattle.run_devices.specs.tacho_types.Numbers.{time_bytes}
use Rattle.run_devices.specs.tacho_types.declared.card_number.FullCardNumber.{FullCardNumber}
use Rattle.run_devices.specs.tacho_types.declared.places.PlaceEntry.{PlaceEntry}
use Rattle.run_events.specs.message_model.Records.{insertion_widths}
use Rattle.run_devices.specs.log_model.Log.{RunLog}
use Rattle.run_devices.specs.note_model.Odometer.{SpanFrom, odometer_at}
use Rattle.run_devices.specs.note_model.Noted.{Acceptance, PlaceNote}
use Rattle.run_devices.specs.note_model.Rings.{Holder, IsInsertion, IsPlace, kind_of}
use Rattle.run_events.specs.unit_notes.declared.insertion.Insertion.{Insertion}
use Rattle.run_events.specs.unit_notes.Entries.{insertion_fields, insertion_bytes, unit_place_bytes}
use Rattle.run_events.specs.unit_notes.Fields.{InsertionFits}
use Rattle.run_events.proofs.unit_notes.EntryFields.{tells_insertion, tells_place}

-- the expiry stands there byte by byte
expiry-field : (v : Insertion) → InsertionFits v → field_at insertion_widths 3 (insertion_bytes v) ≡ time_bytes v.expiry
unfolding insertion_bytes
expiry-field v fits = ap (λ (l : List (List ℕ)). slice_index_or l 3 []) (cut-joined insertion_widths (insertion_fields v) (
  fits.surname,
  (
    fits.first,
    (
      fits.number,
      (
        length-bytes_high_first 4 v.expiry.0,
        (
          length-bytes_high_first 4 v.time.0,
          (length-bytes_high_first 3 v.odometer.0, (refl, (length-bytes_high_first 4 v.out_time.0, (length-bytes_high_first 3 v.out_odometer.0, (fits.previous, (length-bytes_high_first 4 v.previous_time.0, (refl, refl))))))),
        ),
      ),
    ),
  ),
))

module _ (log : RunLog) (spans : List SpanFrom) (holder : Card → Holder) where
  -- A PLACE that is told so
  pub record IsPlaceTold (p : PlaceNote) (number : FullCardNumber) (entry : PlaceEntry) : Type 0 where
    pub holder_is : card_number_bytes number ≡ (holder p.card).number
    pub long : length (card_number_bytes number) ≡ 18
    pub time : entry.time.0 ≡ p.second
    pub low : entry.time.0 < 2 ^ 32
    pub kind : entry.kind ≡ kind_of p.ending
    pub country : entry.country.0 ≡ p.country
    pub region : entry.region ≡ p.region
    pub odometer : entry.odometer.0 ≡ odometer_at p.second spans
    pub few : entry.odometer.0 < 2 ^ 24

  pub place-is : (p : PlaceNote) (number : FullCardNumber) (entry : PlaceEntry) → IsPlaceTold p number entry → IsPlace log spans holder p (unit_place_bytes number entry)
  place-is p number entry t =
      let tells = tells_place number entry t.long t.low t.few in
      record {
        size = tells.size;
        number = tells.number ∙ t.holder_is;
        time = tells.time ∙ t.time;
        kind = tells.kind ∙ t.kind;
        country = tells.country ∙ t.country;
        region = tells.region ∙ t.region;
        odometer = tells.odometer ∙ t.odometer;
      }

  -- AN INSERTION that is told so, of a card that is not withdrawn
  pub record IsInsertionTold (Tells : Card → List ℕ → ℕ → Type 0) (a : Acceptance) (v : Insertion) : Type 0 where
    pub fits : InsertionFits v
    pub surname : v.surname.0 ≡ (holder a.card).surname
    pub first_names : v.first.0 ≡ (holder a.card).first_names
    pub number : card_number_bytes v.number ≡ (holder a.card).number
    pub expiry : time_bytes v.expiry ≡ (holder a.card).expiry
    pub time : v.time.0 ≡ a.second
    pub odometer : v.odometer.0 ≡ odometer_at a.second spans
    pub slot : v.slot ≡ slot_number a.slot
    pub out_time : v.out_time.0 ≡ 0
    pub out_odometer : v.out_odometer.0 ≡ 0
    pub previous : Tells a.card v.previous.0 v.previous_time.0
    pub by_hand : v.manual ≡ 0

  pub insertion-is : (Tells : Card → List ℕ → ℕ → Type 0) → ((card : Card) (r s : List ℕ) (t u : ℕ) → r ≡ s → t ≡ u → Tells card s u → Tells card r t) →
      (a : Acceptance) (v : Insertion) → IsInsertionTold Tells a v → IsInsertion log spans holder Tells (record { accepted = a; withdrawn = None }) (insertion_bytes v)
  insertion-is Tells along a v t =
      let tells = tells_insertion v t.fits in
      record {
        size = tells.size;
        surname = tells.surname ∙ t.surname;
        first_names = tells.first ∙ t.first_names;
        number = tells.number ∙ t.number;
        expiry = expiry-field v t.fits ∙ t.expiry;
        time = tells.time ∙ t.time;
        odometer = tells.odometer ∙ t.odometer;
        slot = tells.slot ∙ t.slot;
        withdrawal = (tells.out_time ∙ t.out_time, tells.out_odometer ∙ t.out_odometer);
        previous = along a.card (field_at insertion_widths 9 (insertion_bytes v)) v.previous.0 (number_in insertion_widths 10 (insertion_bytes v)) v.previous_time.0 tells.previous tells.previous_time t.previous;
        by_hand = tells.manual ∙ t.by_hand;
      }

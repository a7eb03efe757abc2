-- The insertion of a card that is accepted tells what its image told at the start: names, number and expiry; and its newest vehicle, by an image that
-- a stop might have left of it.
use Rattle.std.proofs.Common.{◌≡◌, ◌∙◌, ◌⊎◌, inl, inr, ⊎_elim, ℕ, ◌^◌, ◌<◌, Option, Some, None, IfSome, List, length, take, drop, get_or, All, refl, ap, sym, subst, arith}
use Rattle.std.proofs.lemmas.Bool.{cases_lt}
use Rattle.std.proofs.lemmas.List.{get_or_past, length-take, length-drop}
use Rattle.std.proofs.lemmas.List.Elements.{All-get_or, All-take, All-drop}
use Rattle.tach_media.specs.card_layout.Fields.{IsBytes, field_at}
use Rattle.tach_media.proofs.card_layout.Cuts.{IsBytes-drop, IsBytes-take}
use Rattle.tach_media.proofs.card_layout.Numbers.{big_bytes-big_number}
use Rattle.activity_codec.specs.declared.values.Slot.{Slot}
use Rattle.activity_codec.specs.declared.values.Slot.TheVariants.{Driver, CoDriver}
use Rattle.activity_codec.specs.Words.{slot_number as slot_told}
use Rattle.trace_model.specs.declared.Card.{Card}
use Rattle.trace_model.specs.Trace.{TraceSecond}
use Rattle.tacho_types.specs.CardNumber.{card_number_bytes}
use Rattle.tacho_types.specs.Numbers.{time_bytes, time_of}
use Rattle.tach_media.specs.card_layout.declared.files.Application.{Application}
use Rattle.tach_media.specs.card_layout.Files.{place_of, size_of}
use Rattle.device_calls.specs.card_files.declared.vehicle.Vehicle.{Vehicle}
use Rattle.device_calls.specs.card_image.Fields.{file, file_bytes, newest_vehicle}
use Rattle.device_calls.specs.card_image.Own.{own_sizes, IsOwnValid}
use Rattle.device_calls.specs.card_validity.declared.looking.CardLook.{CardLook}
use Rattle.device_calls.specs.card_validity.Judged.{IsLook, identification_field}
use Rattle.log_model.specs.Log.{RunLog}
use Rattle.log_model.specs.Course.{ToldSecond}
use Rattle.run_acts.specs.unit_notes.Fields.{InsertionFits}
use Rattle.run_acts.specs.unit_notes.Entries.{insertion_bytes}
use Rattle.device_calls.specs.note_model.Odometer.{SpanFrom, odometer_at}
use Rattle.device_calls.specs.note_model.Noted.{Acceptance}
use Rattle.device_calls.specs.safety_model.Recording.{Recording, card_image}
use Rattle.device_calls.specs.safety_model.Safe.{Devices, card_of}
use Rattle.device_calls.specs.safety_model.Side.{identification_widths, TellsVehicle}
use Rattle.run_minutes.specs.run_promise.Found.{found_of}
use Rattle.run_minutes.specs.run_devices.Strung.{identification_of, HasSameHolder}
use Rattle.run_minutes.specs.run_promise.Origin.{Origin}
use Rattle.run_acts.specs.run_note_record.Opened.{HasComeBefore}
use Rattle.run_acts.specs.run_note_record.Moved.{Move}
use Rattle.run_acts.specs.run_note_record.Ringed.{Since, holder_in, TellsIn, IsInsertionIn}
use Rattle.run_acts.proofs.run_note_record.Bytes.{IsInsertionTold, insertion-is}
use Rattle.run_insertion.specs.declared.lines.Entering.{Entering}
use Rattle.run_insertion.specs.Entering.{slot_number, previous_of, previous_time_of, insertion_of}
use Rattle.run_insertion.specs.Entered.{FitsInsertion}
use Rattle.run_acts.specs.Recording.{IsOrigin}
use Rattle.recorder_with_cards.specs.JudgedRings.{IsInsertionNow}

-- ---- bytes

is-bytes : (xs : List ℕ) → All (λ n. n < 256) xs → IsBytes xs
is-bytes xs all i = ⊎_elim
    (λ below. All-get_or (λ (n : ℕ). n < 256) xs i 0 below all)
    (λ past. let none : get_or xs i 0 ≡ 0 = get_or_past xs i 0 past in omega (arith, none))
    (cases_lt i (length xs))

-- what stands before the expiry
abbrev before_expiry : List ℕ → List ℕ
before_expiry xs = drop 4 (drop 4 (drop 36 (drop 16 (drop 1 xs))))

-- where the surname has its bytes, so has the expiry
expiry-long : (xs : List ℕ) → length (field_at identification_widths 6 xs) ≡ 36 → length (field_at identification_widths 5 xs) ≡ 4
expiry-long xs long =
    let surname : length (take 36 (drop 4 (before_expiry xs))) ≡ 36 = long in
    let few = length-take 36 (drop 4 (before_expiry xs)) in
    let rest = length-drop 4 (before_expiry xs) in
    let is : length (take 4 (before_expiry xs)) ≡ 4 = omega (arith, surname, few, rest, length-take 4 (before_expiry xs)) in
    is

expiry-back : (xs : List ℕ) → IsBytes xs → length (field_at identification_widths 6 xs) ≡ 36 → time_bytes (time_of (field_at identification_widths 5 xs)) ≡ field_at identification_widths 5 xs
expiry-back xs fits long =
    big_bytes-big_number 4 (take 4 (before_expiry xs)) (expiry-long xs long)
    (IsBytes-take 4 (before_expiry xs) (IsBytes-drop 4 (drop 4 (drop 36 (drop 16 (drop 1 xs)))) (IsBytes-drop 4 (drop 36 (drop 16 (drop 1 xs))) (IsBytes-drop 36 (drop 16 (drop 1 xs)) (IsBytes-drop 16 (drop 1 xs) (IsBytes-drop 1 xs fits))))))

-- ---- the vehicle before

tells-vehicle : (r : Recording) (v : Option Vehicle) → TellsVehicle r v (previous_of v).0 (previous_time_of v)
tells-vehicle r None = (refl, refl)
tells-vehicle r (Some v) = (refl, refl)

abbrev pub VehicleFits : Option Vehicle → Type 0
VehicleFits o = IfSome o (λ v. (length v.registration.0 ≡ 15) × (v.last_use.0 < 2 ^ 32))

pub previous-long : (v : Option Vehicle) → VehicleFits v → length (previous_of v).0 ≡ 15
previous-long None h = refl
previous-long (Some v) h = h.0

pub previous-low : (v : Option Vehicle) → VehicleFits v → previous_time_of v < 2 ^ 32
previous-low None h = omega arith
previous-low (Some v) h = h.1

-- ---- the slot
slot-is : (slot : Slot) → slot_number slot ≡ slot_told slot
slot-is Driver = refl
slot-is CoDriver = refl

-- ---- what a card told by this image, which a stop might have left, and which is of the holder at the start
module _ (o : Origin) (origin : IsOrigin o) (e : Entering) (look : CardLook) (app : Application) (y : List ℕ) (sizes : own_sizes y ≡ app) (is : IsLook app y look) (fits : FitsInsertion look) (valid : IsOwnValid (card_image o.recording e.which))
    (same : HasSameHolder (found_of o.found e.which).image y) (named : card_number_bytes look.number ≡ (found_of o.found e.which).number)
    (seconds : List ToldSecond) (trace : List TraceSecond) (moves : List Move) (u : ℕ) (first : (y ≡ card_image o.recording e.which) ⊎ HasComeBefore seconds trace e.which u) (d : Devices) (left_ : (card_of d e.which).left_since (found_of o.found e.which).began y) (second : e.at.second ≡ u) (small : u < 2 ^ 32) (spans : List SpanFrom) (odometer : e.odometer.0 ≡ odometer_at u spans) (few : e.odometer.0 < 2 ^ 24) where
  the-file : file_bytes app 0x0520 y ≡ identification_of (card_image o.recording e.which)
  the-file = ap (λ (a : Application). file_bytes a 0x0520 y) (sym sizes) ∙ same.identification ∙ ap identification_of (origin.image e.which)

  field-is : (k : ℕ) → identification_field app y k ≡ field_at identification_widths k (identification_of (card_image o.recording e.which))
  field-is k = ap (field_at identification_widths k) the-file

  own-bytes : IsBytes (identification_of (card_image o.recording e.which))
  own-bytes = is-bytes (identification_of (card_image o.recording e.which))
      (All-take (λ (n : ℕ). n < 256) (size_of (own_sizes (card_image o.recording e.which)) (file 0x0520)) (drop (place_of (own_sizes (card_image o.recording e.which)) (file 0x0520)) (card_image o.recording e.which))
      (All-drop (λ (n : ℕ). n < 256) (place_of (own_sizes (card_image o.recording e.which)) (file 0x0520)) (card_image o.recording e.which) (origin.bytes e.which)))

  surname-is : look.surname.0 ≡ field_at identification_widths 6 (identification_of (card_image o.recording e.which))
  surname-is = is.surname ∙ field-is 6

  expiry-is : time_bytes look.expiry ≡ field_at identification_widths 5 (identification_of (card_image o.recording e.which))
  expiry-is = ap time_bytes is.expiry ∙ ap (λ (l : List ℕ). time_bytes (time_of l)) (field-is 5)
      ∙ expiry-back (identification_of (card_image o.recording e.which)) own-bytes (ap (λ (l : List ℕ). length l) (sym surname-is) ∙ fits.surname)

  all-fits : InsertionFits (insertion_of look e)
  all-fits = record {
    surname = fits.surname;
    first = fits.first;
    number = fits.number;
    previous = previous-long look.previous fits.previous;
    expiry = fits.expiry;
    time = omega (arith, second, small);
    odometer = few;
    out_time = omega arith;
    out_odometer = omega arith;
    previous_time = previous-low look.previous fits.previous;
  }

  abbrev a : Acceptance
  a = record { second = u; slot = e.slot; card = e.which }

  -- so far as it has gone
  abbrev so_far : Since
  so_far = record { origin = o; told = seconds; trace = trace; moves = moves }

  of-image : (x : List ℕ) → x ≡ y → TellsVehicle o.recording (newest_vehicle (own_sizes x) x) (previous_of look.previous).0 (previous_time_of look.previous)
  of-image x same = subst (λ (v : Option Vehicle). TellsVehicle o.recording v (previous_of look.previous).0 (previous_time_of look.previous))
      (is.previous ∙ ap (λ (q : Application). newest_vehicle q y) (sym sizes) ∙ ap (λ (z : List ℕ). newest_vehicle (own_sizes z) z) (sym same)) (tells-vehicle o.recording look.previous)

  before-it : TellsIn so_far d u e.which (previous_of look.previous).0 (previous_time_of look.previous)
  before-it = ((y, left_, of-image y refl), ⊎_elim (λ same. inl (of-image (card_image o.recording e.which) (sym same))) (λ come. inr come) first)

  told : (log : RunLog) → IsInsertionTold log spans (holder_in o) (TellsIn so_far d u) (record { second = u; slot = e.slot; card = e.which }) (insertion_of look e)
  told log = record {
    fits = all-fits;
    surname = surname-is;
    first_names = is.first ∙ field-is 7;
    number = named ∙ origin.number e.which valid;
    expiry = expiry-is;
    time = second;
    odometer = odometer;
    slot = slot-is e.slot;
    out_time = refl;
    out_odometer = refl;
    previous = before-it;
    by_hand = refl;
  }

  along : (card : Card) (r s : List ℕ) (t v : ℕ) → r ≡ s → t ≡ v → TellsIn so_far d u card s v → TellsIn so_far d u card r t
  along card r s t v rs tv h = subst (λ (l : List ℕ). TellsIn so_far d u card l t) (sym rs) (subst (λ (k : ℕ). TellsIn so_far d u card s k) (sym tv) h)

  entry-is : (log : RunLog) → IsInsertionIn so_far log spans d (record { accepted = record { second = u; slot = e.slot; card = e.which }; withdrawn = None }) (insertion_bytes (insertion_of look e))
  entry-is log = insertion-is log spans (holder_in o) (TellsIn so_far d u) along (record { second = u; slot = e.slot; card = e.which }) (insertion_of look e) (told log)

  -- IT IS ITS INSERTION
  pub insertion-now : IsInsertionNow so_far (record { second = u; slot = e.slot; card = e.which }) spans d (insertion_bytes (insertion_of look e))
  insertion-now = record { long = (entry-is o.recording.log).size; is = entry-is }

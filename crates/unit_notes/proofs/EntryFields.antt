-- The fields of the entries that are written, by their widths.
use Rattle.std.proofs.Common.{◌≡◌, ◌≢◌, ℕ, ◌-◌, ◌^◌, ◌<◌, Bool, true, false, cond, Option, Some, None, List, [], ◌∷◌, length, refl, sym, ◌∙◌, ap, subst, arith}
use Rattle.std.specs.Prelude.{nat_eq, slice_index, slice_index_or}
use Rattle.std.proofs.lemmas.Bool.{ne_eqb, eq-eqb}
use Rattle.std.proofs.lemmas.List.{length-append}
use Rattle.byteorder.specs.Numbers.{length-bytes_high_first}
use Rattle.card_layout.specs.Fields.{HaveWidths, joined, total_width, place_in, field_at, number_in}
use Rattle.card_layout.specs.Images.{big_number, big_bytes, bytes_at}
use Rattle.card_layout.proofs.Cuts.{cut-joined}
use Rattle.card_layout.proofs.Fields.{field_part}
use Rattle.card_layout.proofs.Numbers.{big_number-big_bytes}
use Rattle.trace_model.specs.declared.Card.{Card}
use Rattle.tacho_types.specs.CardNumber.{card_number_bytes}
use Rattle.tacho_types.specs.declared.card_number.FullCardNumber.{FullCardNumber}
use Rattle.tacho_types.specs.declared.places.PlaceEntry.{PlaceEntry}
use Rattle.tacho_types.specs.Numbers.{time_bytes, odometer_bytes}
use Rattle.event_model.specs.declared.kinds.TheConstants.{CARD_FAULT, OVER_SPEEDING}
use Rattle.event_model.specs.declared.entries.Over.{Over}
use Rattle.event_model.specs.Kinds.{purpose_of, purpose_number}
use Rattle.message_model.specs.Records.{insertion_widths, place_widths}
use Rattle.event_model.specs.Events.{Event}
use Rattle.note_model.specs.Tables.{event_widths, fault_widths, over_widths, number_or_none, HasNumbers, HasSpeeds, HasRest}
use Rattle.unit_notes.specs.declared.insertion.Insertion.{Insertion}
use Rattle.unit_notes.specs.declared.unit_event.UnitEvent.{UnitEvent}
use Rattle.unit_notes.specs.Entries.{insertion_fields, insertion_bytes, unit_place_bytes, fault_fields, fault_bytes, over_fields, over_bytes}
use Rattle.unit_notes.specs.Tables.{front_size}
use Rattle.unit_notes.specs.Fields.{InsertionFits, TellsInsertion, TellsPlace, IsEventOf, IsOverOf, IsFrontOf}

-- how long joined fields are
length-joined : (widths : List ℕ) (fields : List (List ℕ)) → HaveWidths widths fields → length (joined fields) ≡ total_width widths
length-joined [] fields have = ap (λ (l : List (List ℕ)). length (joined l)) have
length-joined (w ∷ widths) [] have = absurd have
length-joined (w ∷ widths) (field ∷ fields) have = omega (arith, length-append field (joined fields), have.0, length-joined widths fields have.1)

-- a field of joined ones
module _ (widths : List ℕ) (fields : List (List ℕ)) (have : HaveWidths widths fields) where
  joined_field : (k : ℕ) → field_at widths k (joined fields) ≡ slice_index_or fields k []
  joined_field k = ap (λ (l : List (List ℕ)). slice_index_or l k []) (cut-joined widths fields have)

  joined_number : (k w n : ℕ) → slice_index widths k ≡ w → slice_index_or fields k [] ≡ big_bytes w n → n < 256 ^ w → number_in widths k (joined fields) ≡ n
  joined_number k w n wide is fits =
      ap (big_number (slice_index widths k)) (joined_field k ∙ is) ∙ ap (λ (v : ℕ). big_number v (big_bytes w n)) wide ∙ big_number-big_bytes w n fits

  joined_byte : (k n : ℕ) → slice_index widths k ≡ 1 → slice_index_or fields k [] ≡ n ∷ [] → number_in widths k (joined fields) ≡ n
  joined_byte k n wide is = ap (big_number (slice_index widths k)) (joined_field k ∙ is) ∙ ap (λ (v : ℕ). big_number v (n ∷ [])) wide ∙ one
    where
      one : big_number 1 (n ∷ []) ≡ n
      one = omega arith

-- ---- an insertion

module _ (v : Insertion) (fits : InsertionFits v) where
  insertion_have : HaveWidths insertion_widths (insertion_fields v)
  insertion_have = (
    fits.surname,
    (
      fits.first,
      (
        fits.number,
        (
          length-bytes_high_first 4 v.expiry.0,
          (
            length-bytes_high_first 4 v.time.0,
            (
              length-bytes_high_first 3 v.odometer.0,
              (refl, (length-bytes_high_first 4 v.out_time.0, (length-bytes_high_first 3 v.out_odometer.0, (fits.previous, (length-bytes_high_first 4 v.previous_time.0, (refl, refl)))))),
            ),
          ),
        ),
      ),
    ),
  )

  pub tells_insertion : TellsInsertion v (insertion_bytes v)
  unfolding insertion_bytes
  tells_insertion =
      let f : List (List ℕ) = insertion_fields v in
      record {
        size = length-joined insertion_widths f insertion_have;
        surname = joined_field insertion_widths f insertion_have 0;
        first = joined_field insertion_widths f insertion_have 1;
        number = joined_field insertion_widths f insertion_have 2;
        expiry = joined_number insertion_widths f insertion_have 3 4 v.expiry.0 refl refl (omega (arith, fits.expiry));
        time = joined_number insertion_widths f insertion_have 4 4 v.time.0 refl refl (omega (arith, fits.time));
        odometer = joined_number insertion_widths f insertion_have 5 3 v.odometer.0 refl refl (omega (arith, fits.odometer));
        slot = joined_byte insertion_widths f insertion_have 6 v.slot refl refl;
        out_time = joined_number insertion_widths f insertion_have 7 4 v.out_time.0 refl refl (omega (arith, fits.out_time));
        out_odometer = joined_number insertion_widths f insertion_have 8 3 v.out_odometer.0 refl refl (omega (arith, fits.out_odometer));
        previous = joined_field insertion_widths f insertion_have 9;
        previous_time = joined_number insertion_widths f insertion_have 10 4 v.previous_time.0 refl refl (omega (arith, fits.previous_time));
        manual = joined_byte insertion_widths f insertion_have 11 v.manual refl refl;
      }

-- ---- a place

module _ (number : FullCardNumber) (v : PlaceEntry) (long : length (card_number_bytes number) ≡ 18) (time : v.time.0 < 2 ^ 32) (odometer : v.odometer.0 < 2 ^ 24) where
  abbrev place_fields : List (List ℕ)
  place_fields = card_number_bytes number ∷ time_bytes v.time ∷ (v.kind ∷ []) ∷ (v.country.0 ∷ []) ∷ (v.region ∷ []) ∷ odometer_bytes v.odometer ∷ []

  place_have : HaveWidths place_widths place_fields
  place_have = (long, (length-bytes_high_first 4 v.time.0, (refl, (refl, (refl, (length-bytes_high_first 3 v.odometer.0, refl))))))

  pub tells_place : TellsPlace number v (unit_place_bytes number v)
  tells_place = record {
    size = length-joined place_widths place_fields place_have;
    number = joined_field place_widths place_fields place_have 0;
    time = joined_number place_widths place_fields place_have 1 4 v.time.0 refl refl (omega (arith, time));
    kind = joined_byte place_widths place_fields place_have 2 v.kind refl refl;
    country = joined_byte place_widths place_fields place_have 3 v.country.0 refl refl;
    region = joined_byte place_widths place_fields place_have 4 v.region refl refl;
    odometer = joined_number place_widths place_fields place_have 5 3 v.odometer.0 refl refl (omega (arith, odometer));
  }

-- ---- an event or a fault

-- the number of a card, or zeros
none_long : (number : Card → List ℕ) (long : (card : Card) → length (number card) ≡ 18) (o : Option Card) → length (number_or_none number o) ≡ 18
none_long number long None = refl
none_long number long (Some card) = long card

-- the fields of a fault at the places that they have in an event
event_field : (k : ℕ) (bytes : List ℕ) → k < 8 → place_in event_widths k ≡ place_in fault_widths k → slice_index event_widths k ≡ slice_index fault_widths k → field_at event_widths k bytes ≡ field_at fault_widths k bytes
event_field k bytes below place wide =
    field_part event_widths k bytes (omega (arith, below)) ∙ (λ t. bytes_at bytes (place t) (wide t)) ∙ sym (field_part fault_widths k bytes (omega (arith, below)))

number_by : (a b : Bool) (k n : ℕ) (bytes : List ℕ) → a ≡ false → k < 8 → place_in event_widths k ≡ place_in fault_widths k → slice_index event_widths k ≡ slice_index fault_widths k
    → number_in fault_widths k bytes ≡ n → number_in (cond a over_widths (cond b fault_widths event_widths)) k bytes ≡ n
number_by true b k n bytes other below place wide is = absurd (cc)
number_by false true k n bytes other below place wide is = is
number_by false false k n bytes other below place wide is =
    (λ t. big_number (wide t) (event_field k bytes below place wide t)) ∙ is

size_by : (a b : Bool) → a ≡ false → 82 ≡ cond b (total_width (cond a over_widths (cond b fault_widths event_widths))) (total_width (cond a over_widths (cond b fault_widths event_widths)) - 1)
size_by true b other = absurd (cc)
size_by false true other = refl
size_by false false other = refl

weight_by : (a : Bool) (n m : ℕ) → a ≡ false → m ≡ 0 → cond a n 0 ≡ m
weight_by true n m other zero = absurd (cc)
weight_by false n m other zero = sym zero

module _ (number : Card → List ℕ) (e : Event) (v : UnitEvent) (long : (card : Card) → length (number card) ≡ 18) (other : e.kind ≢ OVER_SPEEDING) (begin : e.begin < 2 ^ 32) (end : e.end < 2 ^ 32) (is : IsEventOf number e v) where
  not_over : nat_eq e.kind OVER_SPEEDING ≡ false
  not_over = ne_eqb e.kind OVER_SPEEDING other

  fault_have : HaveWidths fault_widths (fault_fields v)
  fault_have = (
    refl,
    (
      refl,
      (
        length-bytes_high_first 4 v.begin.0,
        (
          length-bytes_high_first 4 v.end.0,
          (
            ap length is.driver_begin ∙ none_long number long e.at_begin.driver,
            (
              ap length is.codriver_begin ∙ none_long number long e.at_begin.codriver,
              (ap length is.driver_end ∙ none_long number long e.at_end.driver, (ap length is.codriver_end ∙ none_long number long e.at_end.codriver, refl)),
            ),
          ),
        ),
      ),
    ),
  )

  abbrev b : Bool
  b = nat_eq e.kind CARD_FAULT

  rest_by : (a : Bool) → a ≡ false → HasNumbers number e (joined (fault_fields v)) → HasRest number a e (joined (fault_fields v))
  rest_by true over has = absurd (cc)
  rest_by false over has = has

  pub event_front_of : IsFrontOf number e (fault_bytes v)
  unfolding fault_bytes
  event_front_of =
      let f : List (List ℕ) = fault_fields v in
      let bytes : List ℕ = joined f in
      record {
        size = length-joined fault_widths f fault_have ∙ size_by (nat_eq e.kind OVER_SPEEDING) b not_over;
        kind = number_by (nat_eq e.kind OVER_SPEEDING) b 0 e.kind bytes not_over (omega arith) refl refl (joined_byte fault_widths f fault_have 0 v.kind refl refl ∙ is.kind);
        purpose = number_by (nat_eq e.kind OVER_SPEEDING) b 1 (purpose_number (purpose_of e.kind)) bytes not_over (omega arith) refl refl (joined_byte fault_widths f fault_have 1 v.purpose refl refl ∙ is.purpose);
        begin = number_by (nat_eq e.kind OVER_SPEEDING) b 2 e.begin bytes not_over (omega arith) refl refl (joined_number fault_widths f fault_have 2 4 v.begin.0 refl refl (omega (arith, begin, is.begin)) ∙ is.begin);
        end = number_by (nat_eq e.kind OVER_SPEEDING) b 3 e.end bytes not_over (omega arith) refl refl (joined_number fault_widths f fault_have 3 4 v.end.0 refl refl (omega (arith, end, is.end)) ∙ is.end);
        weight = weight_by (nat_eq e.kind OVER_SPEEDING) (number_in over_widths 5 bytes) e.average not_over is.average;
        rest = rest_by (nat_eq e.kind OVER_SPEEDING) not_over
            (record {
              driver_begin = event_field 4 bytes (omega arith) refl refl ∙ joined_field fault_widths f fault_have 4 ∙ is.driver_begin;
              codriver_begin = event_field 5 bytes (omega arith) refl refl ∙ joined_field fault_widths f fault_have 5 ∙ is.codriver_begin;
              driver_end = event_field 6 bytes (omega arith) refl refl ∙ joined_field fault_widths f fault_have 6 ∙ is.driver_end;
              codriver_end = event_field 7 bytes (omega arith) refl refl ∙ joined_field fault_widths f fault_have 7 ∙ is.codriver_end;
            });
      }

-- ---- an over speeding

-- its fields but the last
abbrev front_widths : List ℕ
front_widths = 1 ∷ 1 ∷ 4 ∷ 4 ∷ 1 ∷ 1 ∷ 18 ∷ []

over_field : (k : ℕ) (bytes : List ℕ) → k < 7 → place_in over_widths k ≡ place_in front_widths k → slice_index over_widths k ≡ slice_index front_widths k → field_at over_widths k bytes ≡ field_at front_widths k bytes
over_field k bytes below place wide =
    field_part over_widths k bytes (omega (arith, below)) ∙ (λ t. bytes_at bytes (place t) (wide t)) ∙ sym (field_part front_widths k bytes (omega (arith, below)))

over_number : (k n : ℕ) (bytes : List ℕ) → k < 7 → place_in over_widths k ≡ place_in front_widths k → slice_index over_widths k ≡ slice_index front_widths k → number_in front_widths k bytes ≡ n → number_in over_widths k bytes ≡ n
over_number k n bytes below place wide is = (λ t. big_number (wide t) (over_field k bytes below place wide t)) ∙ is

widths_by : (a b : Bool) (k n : ℕ) (bytes : List ℕ) → a ≡ true → number_in over_widths k bytes ≡ n → number_in (cond a over_widths (cond b fault_widths event_widths)) k bytes ≡ n
widths_by true b k n bytes over is = is
widths_by false b k n bytes over is = absurd (cc)

weighs_by : (a : Bool) (n m : ℕ) → a ≡ true → n ≡ m → cond a n 0 ≡ m
weighs_by true n m over is = is
weighs_by false n m over is = absurd (cc)

module _ (number : Card → List ℕ) (e : Event) (over : Over) (driver : FullCardNumber) (long : (card : Card) → length (number card) ≡ 18) (begin : e.begin < 2 ^ 32) (end : e.end < 2 ^ 32) (is : IsOverOf number e over driver) where
  is_over : nat_eq e.kind OVER_SPEEDING ≡ true
  is_over = eq-eqb e.kind OVER_SPEEDING is.kind

  over_have : HaveWidths front_widths (over_fields over driver)
  over_have =
      (refl, (refl, (length-bytes_high_first 4 over.begin, (length-bytes_high_first 4 over.end, (refl, (refl, (ap length is.driver ∙ none_long number long e.at_begin.driver, refl)))))))

  speeds_by : (a : Bool) → a ≡ true → HasSpeeds number e (joined (over_fields over driver)) → HasRest number a e (joined (over_fields over driver))
  speeds_by true it has = has
  speeds_by false it has = absurd (cc)

  pub over_front_of : IsFrontOf number e (over_bytes over driver)
  unfolding over_bytes
  over_front_of =
      let f : List (List ℕ) = over_fields over driver in
      let bytes : List ℕ = joined f in
      let a : Bool = nat_eq e.kind OVER_SPEEDING in
      let b : Bool = nat_eq e.kind CARD_FAULT in
      let begins : over.begin < 256 ^ 4 = omega (arith, begin, is.begin) in
      let ends : over.end < 256 ^ 4 = omega (arith, end, is.end) in
      let average : number_in over_widths 5 bytes ≡ e.average = over_number 5 e.average bytes (omega arith) refl refl (joined_byte front_widths f over_have 5 over.average refl refl ∙ is.average) in
      record {
        size = length-joined front_widths f over_have ∙ subst (λ (k : ℕ). 30 ≡ front_size k) (sym is.kind) refl;
        kind = widths_by a b 0 e.kind bytes is_over (over_number 0 e.kind bytes (omega arith) refl refl (joined_byte front_widths f over_have 0 7 refl refl ∙ sym is.kind));
        purpose = widths_by a b 1 (purpose_number (purpose_of e.kind)) bytes is_over (over_number 1 (purpose_number (purpose_of e.kind)) bytes (omega arith) refl refl (joined_byte front_widths f over_have 1 4 refl refl ∙ subst (λ (k : ℕ). 4 ≡ purpose_number (purpose_of k)) (sym is.kind) refl));
        begin = widths_by a b 2 e.begin bytes is_over (over_number 2 e.begin bytes (omega arith) refl refl (joined_number front_widths f over_have 2 4 over.begin refl refl begins ∙ is.begin));
        end = widths_by a b 3 e.end bytes is_over (over_number 3 e.end bytes (omega arith) refl refl (joined_number front_widths f over_have 3 4 over.end refl refl ends ∙ is.end));
        weight = weighs_by a (number_in over_widths 5 bytes) e.average is_over average;
        rest = speeds_by a is_over
            (record {
              most = over_number 4 e.most bytes (omega arith) refl refl (joined_byte front_widths f over_have 4 over.most refl refl ∙ is.most);
              average = average;
              driver_begin = over_field 6 bytes (omega arith) refl refl ∙ joined_field front_widths f over_have 6 ∙ is.driver;
            });
      }

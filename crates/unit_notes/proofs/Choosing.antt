-- Where an event goes, by the bytes of the places of its type.
use Rattle.std.proofs.Common.{◌≡◌, ℕ, ◌+◌, ◌*◌, ◌<◌, ◌≤◌, Bool, true, false, cond, Option, Some, None, IfSome, ◌-◌, List, [], ◌∷◌, ◌++◌, length, map, take, drop, refl, sym, ◌∙◌, ap, arith}
use Rattle.std.specs.Prelude.{nat_lt, nat_le, nat_eq, position, slice_index_or}
use Rattle.std.proofs.lemmas.Bool.{ne_eqb}
use Rattle.std.proofs.lemmas.List.{map-append, length-map, get_or-take, get_or-drop}
use Rattle.std.specs.List.{range_with_len, list_all}
use Rattle.std.proofs.lemmas.List.Quantifiers.{position-Some}
use Rattle.std.proofs.lemmas.List.FromFn.{length-map-range_with_len, map-range_with_len_more, get_or-map-range_with_len}
use Rattle.std.proofs.Math.Nat.{mul-le-mul_right}
use Rattle.card_layout.specs.Fields.{total_width, number_in}
use Rattle.card_layout.specs.Images.{bytes_at, number_at}
use Rattle.card_layout.proofs.Fields.{number_part}
use Rattle.card_layout.proofs.Images.{part_in}
use Rattle.tach_media.proofs.Runs.{if_told, at_image}
use Rattle.gated_ring.specs.Ring.{entry_at}
use Rattle.unit_model.proofs.Growth.{map_range_same}
use Rattle.event_model.specs.declared.kinds.TheConstants.{CARD_FAULT, OVER_SPEEDING}
use Rattle.event_model.specs.declared.kinds.Purpose.{Purpose}
use Rattle.event_model.specs.declared.entries.Held.{Held}
use Rattle.event_model.specs.Kinds.{purpose_of, places_of}
use Rattle.event_model.specs.Places.{earliest, held_at, measure, where_later, place_beside, place_of, day_place, similar_after}
use Rattle.note_model.specs.Tables.{event_widths, fault_widths, over_widths, widths_of, base_of, table_of, table_in, held_in, similar_field, similar_at}
use Rattle.unit_notes.specs.Tables.{rows_in, held_table, place_taken, place_of_day, similar_next}

-- ---- a place is one of those of the type

none_held : Held
none_held = record { begin = 0; end = 0; weight = 0 }

where_true : (b : Bool) (i n : ℕ) → i < n → IfSome (cond b (Some i) None) (λ j. j < n)
where_true true i n below = below
where_true false i n below = tt

pub later_below : (held : List Held) (event : Held) (o : Option ℕ) → IfSome o (λ i. i < length held) → IfSome (where_later held event o) (λ i. i < length held)
later_below held event None below = tt
later_below held event (Some i) below = where_true (nat_lt (held_at held i).begin event.begin) i (length held) below

pub found_below : (q : Held → Bool) (held : List Held) (o : Option ℕ) → position q held ≡ o → IfSome o (λ i. i < length held)
found_below q held None is = tt
found_below q held (Some i) is = (position-Some q held i none_held is).0

beside_below : (p : Purpose) (held : List Held) (event : Held) (o : Option ℕ) → IfSome o (λ i. i < length held) → IfSome (place_beside p held event o) (λ i. i < length held)
beside_below p held event None below = later_below held event (earliest (λ h. h.begin) held) (found_below (λ h. list_all (λ y. nat_le h.begin y.begin) held) held (earliest (λ h. h.begin) held) refl)
beside_below p held event (Some i) below = where_true (nat_lt (measure p (held_at held i)) (measure p event)) i (length held) below

pub place_below : (kind : ℕ) (held : List Held) (event : Held) → IfSome (day_place kind held event) (λ i. i < length held) → IfSome (place_of kind held event) (λ i. i < length held)
place_below kind held event below = beside_below (purpose_of kind) held event (day_place kind held event) below

-- ---- what a read has told

-- the entries in the bytes of the places are those of the image
pub rows_there : (kind : ℕ) (x : List ℕ) → rows_in kind (bytes_at x (base_of kind) (places_of kind * total_width (widths_of kind))) ≡ table_in kind x
unfolding table_in
rows_there kind x =
    let w : ℕ = total_width (widths_of kind) in
    let n : ℕ = places_of kind in
    map_range_same (λ i. bytes_at (bytes_at x (base_of kind) (n * w)) (i * w) w) (entry_at (table_of kind) x) 0 n
    (λ j low high.
    let more : j + 1 ≤ n = omega (arith, high) in
    let fits : j * w + w ≤ n * w = omega (arith, mul-le-mul_right w more) in
    let same : base_of kind + j * w ≡ base_of kind + 0 + j * w = omega arith in
    part_in x (base_of kind) (n * w) (j * w) w fits ∙ ap (λ (p : ℕ). bytes_at x p w) same)

module _ (kind : ℕ) (front : List ℕ) (o : Option (List ℕ)) (table : List ℕ) (place len : ℕ) (at : place ≡ base_of kind) (long : len ≡ places_of kind * total_width (widths_of kind)) (read : IfSome o (λ y. table ≡ bytes_at y place len)) (event : Held) (is : event ≡ held_in kind front) where
  rows_read : (y : List ℕ) → o ≡ Some y → rows_in kind table ≡ table_in kind y
  rows_read y was =
      ap (rows_in kind) (at_image (λ z. table ≡ bytes_at z place len) was read ∙ ap (λ (p : ℕ). bytes_at y p len) at ∙ ap (λ (n : ℕ). bytes_at y (base_of kind) n) long)
      ∙ rows_there kind y

  held_read : (y : List ℕ) → o ≡ Some y → map (held_in kind) (rows_in kind table) ≡ held_table kind y
  unfolding held_table
  held_read y was = ap (map (held_in kind)) (rows_read y was)

  pub told_place : (r : Option ℕ) → r ≡ place_of kind (map (held_in kind) (rows_in kind table)) event → IfSome o (λ x. r ≡ place_taken kind front x)
  told_place r chosen = if_told o _ (λ y was. chosen ∙ ap (λ (h : List Held). place_of kind h event) (held_read y was) ∙ ap (place_of kind (held_table kind y)) is)

  pub told_day : (r : Option ℕ) → r ≡ day_place kind (map (held_in kind) (rows_in kind table)) event → IfSome o (λ x. r ≡ place_of_day kind front x)
  told_day r chosen = if_told o _ (λ y was. chosen ∙ ap (λ (h : List Held). day_place kind h event) (held_read y was) ∙ ap (day_place kind (held_table kind y)) is)

  pub told_similar : (day : Option ℕ) (s : ℕ) → s ≡ similar_after (similar_at kind (rows_in kind table) (similar_field kind) day) → IfSome o (λ x. s ≡ similar_next kind x day)
  told_similar day s counted = if_told o _ (λ y was. counted ∙ ap (λ (t : List (List ℕ)). similar_after (similar_at kind t (similar_field kind) day)) (rows_read y was))

-- ---- the bytes of the places, one after the other

-- the entry at a place
abbrev pub row_in : (kind : ℕ) → List ℕ → ℕ → List ℕ
row_in kind bytes i = bytes_at bytes (i * total_width (widths_of kind)) (total_width (widths_of kind))

-- the held events so far, and one more
abbrev pub held_first : (kind : ℕ) → List ℕ → ℕ → List Held
held_first kind bytes n = map (held_in kind) (map (row_in kind bytes) (range_with_len 0 n))

pub held_more : (kind : ℕ) (bytes : List ℕ) (n : ℕ) → held_first kind bytes (n + 1) ≡ held_first kind bytes n ++ held_in kind (row_in kind bytes n) ∷ []
held_more kind bytes n =
    ap (map (held_in kind)) (map-range_with_len_more (row_in kind bytes) 0 n n (omega arith))
    ∙ map-append (held_in kind) (map (row_in kind bytes) (range_with_len 0 n)) (row_in kind bytes n ∷ [])

pub length-held_first : (kind : ℕ) (bytes : List ℕ) (n : ℕ) → length (held_first kind bytes n) ≡ n
length-held_first kind bytes n = length-map (map (row_in kind bytes) (range_with_len 0 n)) (held_in kind) ∙ length-map-range_with_len (row_in kind bytes) 0 n

-- what an entry counts, by its widths
abbrev counted_in : (widths : List ℕ) → Option ℕ → List ℕ → Option ℕ
counted_in widths None entry = None
counted_in widths (Some field) entry = Some (number_in widths field entry)

at_counted : (kind : ℕ) (table : List (List ℕ)) (field : Option ℕ) (i : ℕ) → similar_at kind table field (Some i) ≡ counted_in (widths_of kind) field (slice_index_or table i [])
at_counted kind table None i = refl
at_counted kind table (Some field) i = refl

-- the number in one byte
pub one_byte : (entry : List ℕ) (p : ℕ) → number_at entry p 1 ≡ slice_index_or entry p 0
one_byte entry p =
    let there : slice_index_or (take 1 (drop p entry)) 0 0 ≡ slice_index_or entry p 0 = get_or-take 1 (drop p entry) 0 0 (omega arith) ∙ get_or-drop p entry 0 0 ∙ ap (λ (k : ℕ). slice_index_or entry k 0) (omega arith) in
    omega (arith, there)

counted_by : (a b : Bool) (entry : List ℕ) (w : ℕ) → b ≡ false → w ≡ total_width (cond a over_widths (cond b fault_widths event_widths))
    → Some (slice_index_or entry (w - 1) 0) ≡ counted_in (cond a over_widths (cond b fault_widths event_widths)) (cond b None (cond a (Some 7) (Some 8))) entry
counted_by a true entry w other wide = absurd (cc)
counted_by true false entry w other wide =
    ap Some (ap (λ (k : ℕ). slice_index_or entry (k - 1) 0) wide ∙ sym (number_part over_widths 7 entry (omega arith) ∙ one_byte entry 30))
counted_by false false entry w other wide =
    ap Some (ap (λ (k : ℕ). slice_index_or entry (k - 1) 0) wide ∙ sym (number_part event_widths 8 entry (omega arith) ∙ one_byte entry 82))

-- the last byte of an entry that counts similar events
pub similar_there : (kind : ℕ) (bytes : List ℕ) (i p w n : ℕ) → w ≡ total_width (widths_of kind) → p ≡ i * w → n ≡ w → i < places_of kind → (kind ≡ CARD_FAULT → ⊥)
    → Some (slice_index_or (take n (drop p bytes)) (w - 1) 0) ≡ similar_at kind (rows_in kind bytes) (similar_field kind) (Some i)
similar_there kind bytes i p w n wide at long below other =
    let entry : take n (drop p bytes) ≡ row_in kind bytes i =
    ap (λ (k : ℕ). take k (drop p bytes)) (long ∙ wide) ∙ ap (λ (k : ℕ). bytes_at bytes k (total_width (widths_of kind))) (at ∙ ap (λ (k : ℕ). i * k) wide) in
    let there : slice_index_or (rows_in kind bytes) i [] ≡ row_in kind bytes i = get_or-map-range_with_len (row_in kind bytes) 0 (places_of kind) i i [] below (omega arith) in
    ap (λ (l : List ℕ). Some (slice_index_or l (w - 1) 0)) entry
    ∙ counted_by (nat_eq kind OVER_SPEEDING) (nat_eq kind CARD_FAULT) (row_in kind bytes i) w (ne_eqb kind CARD_FAULT other) wide
    ∙ ap (counted_in (widths_of kind) (similar_field kind)) (sym there)
    ∙ sym (at_counted kind (rows_in kind bytes) (similar_field kind) i)

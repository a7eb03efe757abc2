-- The places and entries of each type: where they stand, and what an entry tells of its event.
use Rattle.std.proofs.Common.{◌≡◌, ◌≢◌, ℕ, ◌+◌, ◌-◌, ◌*◌, ◌<◌, ◌≤◌, Bool, true, false, cond, List, [], ◌∷◌, ◌++◌, length, take, refl, sym, ◌∙◌, ap, subst, arith}
use Rattle.std.specs.Prelude.{nat_eq}
use Rattle.std.proofs.lemmas.List.{take-append-le, drop-append-le, length-drop, length-append}
use Rattle.card_layout.specs.Fields.{total_width, number_in}
use Rattle.card_layout.specs.Images.{big_number, bytes_at, number_at}
use Rattle.card_layout.proofs.Fields.{number_part}
use Rattle.tach_media.specs.Medium.{LiesInside}
use Rattle.tach_media.proofs.Ranges.{lies_part}
use Rattle.gated_ring.specs.Ring.{Shape, size_of, place_of, gate_number}
use Rattle.gated_ring.proofs.Places.{place_low, place_high}
use Rattle.event_model.specs.declared.kinds.TheConstants.{CARD_NOT_VALID, TIME_OVERLAP, DRIVING_WITHOUT_CARD, INSERTION_WHILE_DRIVING, SESSION_NOT_CLOSED, OVER_SPEEDING, CARD_FAULT}
use Rattle.event_model.specs.Kinds.{places_of}
use Rattle.note_model.specs.Tables.{event_widths, fault_widths, over_widths, widths_of, table_of, held_in}
use Rattle.unit_notes.specs.Tables.{front_size, with_similar}

-- an entry has its begin and its end at the same places in each type
module _ (e : List ℕ) where
  begin_by : (a b : Bool) → number_in (cond a over_widths (cond b fault_widths event_widths)) 2 e ≡ number_at e 2 4
  begin_by true b = number_part over_widths 2 e (omega arith)
  begin_by false true = number_part fault_widths 2 e (omega arith)
  begin_by false false = number_part event_widths 2 e (omega arith)

  end_by : (a b : Bool) → number_in (cond a over_widths (cond b fault_widths event_widths)) 3 e ≡ number_at e 6 4
  end_by true b = number_part over_widths 3 e (omega arith)
  end_by false true = number_part fault_widths 3 e (omega arith)
  end_by false false = number_part event_widths 3 e (omega arith)

  pub begin_is : (kind : ℕ) → number_in (widths_of kind) 2 e ≡ number_at e 2 4
  begin_is kind = begin_by (nat_eq kind OVER_SPEEDING) (nat_eq kind CARD_FAULT)

  pub end_is : (kind : ℕ) → number_in (widths_of kind) 3 e ≡ number_at e 6 4
  end_is kind = end_by (nat_eq kind OVER_SPEEDING) (nat_eq kind CARD_FAULT)

  pub average_is : number_in over_widths 5 e ≡ number_at e 11 1
  average_is = number_part over_widths 5 e (omega arith)

  pub held_is : (kind : ℕ) → held_in kind e ≡ record { begin = number_at e 2 4; end = number_at e 6 4; weight = cond (nat_eq kind OVER_SPEEDING) (number_at e 11 1) 0 }
  held_is kind = λ t. record { begin = begin_is kind t; end = end_is kind t; weight = cond (nat_eq kind OVER_SPEEDING) (average_is t) 0 }

-- the places of a type lie among those of events and faults
inside_by : (a b c d e f g : Bool) →
    (let r : Shape = record {
      base = cond a 2391364 (cond b 2391674 (2386384 + cond c 0 (cond d 1 (cond e 2 (cond f 3 (cond g 4 5)))) * 10 * 83));
      width = total_width (cond a over_widths (cond b fault_widths event_widths));
      count = cond b 24 10;
      pointer_width = 0;
      gate = 2;
    } in (2386384 ≤ r.base) × (r.base + size_of r ≤ 2393642))
inside_by true true c d e f g = (omega arith, omega arith)
inside_by true false c d e f g = (omega arith, omega arith)
inside_by false true c d e f g = (omega arith, omega arith)
inside_by false false true d e f g = (omega arith, omega arith)
inside_by false false false true e f g = (omega arith, omega arith)
inside_by false false false false true f g = (omega arith, omega arith)
inside_by false false false false false true g = (omega arith, omega arith)
inside_by false false false false false false true = (omega arith, omega arith)
inside_by false false false false false false false = (omega arith, omega arith)

pub table_inside : (kind : ℕ) → (2386384 ≤ (table_of kind).base) × ((table_of kind).base + size_of (table_of kind) ≤ 2393642)
table_inside kind = inside_by (nat_eq kind OVER_SPEEDING) (nat_eq kind CARD_FAULT) (nat_eq kind CARD_NOT_VALID) (nat_eq kind TIME_OVERLAP) (nat_eq kind DRIVING_WITHOUT_CARD) (nat_eq kind INSERTION_WHILE_DRIVING) (nat_eq kind SESSION_NOT_CLOSED)

-- an entry has 31 bytes at least, and 83 at most
width_by : (a b : Bool) → (31 ≤ total_width (cond a over_widths (cond b fault_widths event_widths))) × (total_width (cond a over_widths (cond b fault_widths event_widths)) ≤ 83)
width_by true b = (omega arith, omega arith)
width_by false true = (omega arith, omega arith)
width_by false false = (omega arith, omega arith)

pub width_is : (kind : ℕ) → (31 ≤ total_width (widths_of kind)) × (total_width (widths_of kind) ≤ 83)
width_is kind = width_by (nat_eq kind OVER_SPEEDING) (nat_eq kind CARD_FAULT)

-- an entry with its front and its number of similar events is as wide as its type says, and has the front's begin in its gate
module _ (kind similar : ℕ) (front : List ℕ) (long : length front ≡ front_size kind) where
  pub entry_wide : length (with_similar kind similar front) ≡ total_width (widths_of kind)
  entry_wide = by (nat_eq kind CARD_FAULT) (total_width (widths_of kind)) (width_is kind).0 long
    where
      by : (b : Bool) (w : ℕ) → 31 ≤ w → length front ≡ cond b w (w - 1) → length (cond b front (front ++ similar ∷ [])) ≡ w
      by true w some is = is
      by false w some is = length-append front (similar ∷ []) ∙ omega (arith, is, some)

  pub front_long : 30 ≤ length front
  front_long = by (nat_eq kind CARD_FAULT) (total_width (widths_of kind)) (width_is kind).0 long
    where
      by : (b : Bool) (w : ℕ) → 31 ≤ w → length front ≡ cond b w (w - 1) → 30 ≤ length front
      by true w some is = omega (arith, is, some)
      by false w some is = omega (arith, is, some)

  gate_same : (b : Bool) → bytes_at (cond b front (front ++ similar ∷ [])) 2 4 ≡ bytes_at front 2 4
  gate_same true = refl
  gate_same false =
      ap (take 4) (drop-append-le 2 front (similar ∷ []) (omega (arith, front_long)))
      ∙ take-append-le 4 _ (similar ∷ []) (omega (arith, front_long, length-drop 2 front))

  pub opens : (held_in kind front).begin ≢ 0 → gate_number (table_of kind) (with_similar kind similar front) ≢ 0
  opens some zero = some (begin_is front kind ∙ ap (big_number 4) (sym (gate_same (nat_eq kind CARD_FAULT))) ∙ zero)

-- a range among the places of a ring may be written where all of the ring may be
pub entry_writable : (ranges : List (ℕ × ℕ)) (r : Shape) (i o n : ℕ) → i < r.count → o + n ≤ r.width → LiesInside ranges r.base (size_of r) → LiesInside ranges (place_of r i + o) n
entry_writable ranges r i o n below few whole = lies_part ranges r.base (size_of r) (place_of r i + o) n (omega (arith, place_low r i)) (omega (arith, place_high r i below, few)) whole

place_writable : (ranges : List (ℕ × ℕ)) (r : Shape) (i n : ℕ) → i < r.count → n ≤ r.width → LiesInside ranges r.base (size_of r) → LiesInside ranges (place_of r i) n
place_writable ranges r i n below few whole = lies_part ranges r.base (size_of r) (place_of r i) n (omega (arith, place_low r i)) (omega (arith, place_high r i below, few)) whole

-- ---- a ring that is the type's

module _ (kind : ℕ) (r : Shape) (is : r ≡ table_of kind) where
  pub ring_fits : (n : ℕ) → n ≡ 2485808 → r.base + size_of r ≤ n
  ring_fits n sized =
      let inside : r.base + size_of r ≤ 2393642 = subst (λ (s : Shape). s.base + size_of s ≤ 2393642) (sym is) (table_inside kind).1 in
      omega (arith, sized, inside)

  pub ring_index : (i : ℕ) → i < places_of kind → i < r.count
  ring_index i below = subst (λ (s : Shape). i < s.count) (sym is) below

  pub ring_gate : (n : ℕ) → n ≡ total_width (widths_of kind) → r.gate + 4 ≤ n
  ring_gate n wide = subst (λ (s : Shape). s.gate + 4 ≤ n) (sym is) (omega (arith, wide, (width_is kind).0))

  pub ring_width : (n : ℕ) → n ≤ total_width (widths_of kind) → n ≤ r.width
  ring_width n few = subst (λ (s : Shape). n ≤ s.width) (sym is) few

  pub ring_writable : (ranges : List (ℕ × ℕ)) (i o n : ℕ) → i < places_of kind → o + n ≤ total_width (widths_of kind) → LiesInside ranges 0 2485808 → LiesInside ranges (place_of r i + o) n
  ring_writable ranges i o n below inside whole =
      subst (λ (s : Shape). LiesInside ranges (place_of s i + o) n) (sym is)
      (entry_writable ranges (table_of kind) i o n below inside
      (lies_part ranges 0 2485808 (table_of kind).base (size_of (table_of kind)) (omega arith) (omega (arith, (table_inside kind).1)) whole))

  pub entry_place_writable : (ranges : List (ℕ × ℕ)) (i n : ℕ) → i < places_of kind → n ≤ total_width (widths_of kind) → LiesInside ranges 0 2485808 → LiesInside ranges (place_of r i) n
  entry_place_writable ranges i n below inside whole =
      subst (λ (s : Shape). LiesInside ranges (place_of s i) n) (sym is)
      (place_writable ranges (table_of kind) i n below inside
      (lies_part ranges 0 2485808 (table_of kind).base (size_of (table_of kind)) (omega arith) (omega (arith, (table_inside kind).1)) whole))

  pub ring_opens : (similar : ℕ) (front head : List ℕ) → length front ≡ front_size kind → head ≡ with_similar kind similar front → (held_in kind front).begin ≢ 0 → gate_number r head ≢ 0
  ring_opens similar front head long entry some =
      subst (λ (s : Shape). gate_number s head ≢ 0) (sym is) (subst (λ (h : List ℕ). gate_number (table_of kind) h ≢ 0) (sym entry) (opens kind similar front long some))

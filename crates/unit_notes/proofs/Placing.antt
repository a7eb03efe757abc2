-- What the places of a type hold once an event was noted, entry by entry.
use Rattle.std.proofs.Common.{◌≡◌, ◌≢◌, ℕ, zero, suc, ◌+◌, ◌-◌, ◌/◌, ◌<◌, ◌≤◌, Bool, true, false, cond, Option, Some, None, IfSome, List, [], ◌∷◌, ◌++◌, length, map, take, drop, refl, sym, ◌∙◌, ap, subst, arith, append-nil}
use Rattle.std.specs.Prelude.{nat_eq, position, slice_set, slice_index, slice_index_or}
use Rattle.std.specs.List.{range_with_len}
use Rattle.std.proofs.lemmas.List.{map-set, length-map, length-take-le, length-drop, drop_all, take-append-le, drop-append-le}
use Rattle.std.proofs.Math.Seq.{map-set_same, get_or-append_seam}
use Rattle.std.proofs.lemmas.List.FromFn.{length-map-range_with_len, get_or-map-range_with_len}
use Rattle.card_layout.specs.Fields.{total_width, place_in, field_at, number_in}
use Rattle.card_layout.specs.Images.{big_number, bytes_at, number_at, put, SameOutside}
use Rattle.card_layout.proofs.Fields.{field_part, number_part, place_next}
use Rattle.card_layout.proofs.Images.{part_before, part_put, put_outside}
use Rattle.card_layout.proofs.Spelled.{number_before}
use Rattle.trace_model.specs.declared.Card.{Card}
use Rattle.gated_ring.specs.Ring.{place_of, entry_at, with_head}
use Rattle.gated_ring.specs.Change.{SameOthers, IsReplaced, IsSet}
use Rattle.gated_ring.proofs.Places.{place_high}
use Rattle.unit_model.proofs.Growth.{map_range_same}
use Rattle.event_model.specs.declared.kinds.TheConstants.{CARD_FAULT, OVER_SPEEDING}
use Rattle.event_model.specs.declared.entries.Held.{Held}
use Rattle.event_model.specs.Kinds.{purpose_of, is_by_day, places_of}
use Rattle.event_model.specs.Places.{place_of as place_for, day_place, is_of_day, placed, noted}
use Rattle.event_model.specs.Events.{Event}
use Rattle.note_model.specs.Tables.{event_widths, fault_widths, over_widths, widths_of, table_of, table_in, held_in, held_of, similar_field, CountsSimilar, HasNumbers, HasSpeeds, HasRest, IsEntry, HasOneMore}
use Rattle.note_model.specs.Tables as side
use Rattle.unit_notes.specs.Tables.{held_table, place_taken, place_of_day, similar_next, similar_place, front_size, with_similar}
use Rattle.unit_notes.specs.Noting as notes
use Rattle.unit_notes.specs.Noting.{IsEventNoted}
use Rattle.unit_notes.specs.Fields.{IsFrontOf}
use Rattle.unit_notes.proofs.Types.{held_is, table_inside, width_is, entry_wide, front_long}
use Rattle.unit_notes.proofs.Choosing.{one_byte, found_below, place_below}

-- ---- one entry of a list that is told place by place

map_set : {X : Type 0} (f h : ℕ → X) (a n i : ℕ) (z : X) → i < n → h (a + i) ≡ z → ((j : ℕ) → a ≤ j → j < a + n → j ≢ a + i → h j ≡ f j)
    → map h (range_with_len a n) ≡ slice_set (map f (range_with_len a n)) i z
map_set f h a zero i z below here others = absurd (omega (arith, below))
map_set {X} f h a (suc n) zero z below here others =
    let at : a ≡ a + 0 = omega arith in
    ap (λ (e : X). e ∷ map h (range_with_len (a + 1) n)) (ap h at ∙ here)
    ∙ ap (λ (l : List X). z ∷ l) (map_range_same h f (a + 1) n (λ j low high. others j (omega (arith, low)) (omega (arith, high)) (λ is. omega (arith, low, is))))
map_set {X} f h a (suc n) (suc i) z below here others =
    let at : a + 1 + i ≡ a + suc i = omega arith in
    ap (λ (e : X). e ∷ map h (range_with_len (a + 1) n)) (others a (omega arith) (omega arith) (λ is. omega (arith, is)))
    ∙ ap (λ (l : List X). f a ∷ l) (map_set f h (a + 1) n i z (omega (arith, below)) (ap h at ∙ here) (λ j low high ne. others j (omega (arith, low)) (omega (arith, high)) (λ is. ne (is ∙ sym at))))

module _ (kind : ℕ) (x : List ℕ) (long : length x ≡ 2485808) where
  abbrev w : ℕ
  w = total_width (widths_of kind)

  -- an entry is as wide as its type says
  pub entry_long : (i : ℕ) → i < places_of kind → length (entry_at (table_of kind) x i) ≡ w
  entry_long i below =
      let p : ℕ = place_of (table_of kind) i in
      let inside : p + w ≤ 2393642 = omega (arith, place_high (table_of kind) i below, (table_inside kind).1) in
      length-take-le w (drop p x) (omega (arith, inside, long, length-drop p x))

  -- with another entry at one place
  pub table_set : (y : List ℕ) (i : ℕ) (bytes : List ℕ) → i < places_of kind → entry_at (table_of kind) y i ≡ bytes → SameOthers (table_of kind) i x y → table_in kind y ≡ slice_set (table_in kind x) i bytes
  unfolding table_in
  table_set y i bytes below entry others =
      let at : 0 + i ≡ i = omega arith in
      map_set (entry_at (table_of kind) x) (entry_at (table_of kind) y) 0 (places_of kind) i bytes below (ap (entry_at (table_of kind) y) at ∙ entry)
      (λ j low high ne. (others j (omega (arith, high)) (λ is. ne (is ∙ sym at))).0)

  pub entry_in : (i : ℕ) → i < places_of kind → slice_index_or (table_in kind x) i [] ≡ entry_at (table_of kind) x i
  unfolding table_in
  entry_in i below = get_or-map-range_with_len (entry_at (table_of kind) x) 0 (places_of kind) i i [] below (omega arith)

-- ---- places are those of the type

pub length-held : (kind : ℕ) (x : List ℕ) → length (held_table kind x) ≡ places_of kind
unfolding held_table table_in
length-held kind x = length-map (map (entry_at (table_of kind) x) (range_with_len 0 (places_of kind))) (held_in kind) ∙ length-map-range_with_len (entry_at (table_of kind) x) 0 (places_of kind)

pub day_below : (kind : ℕ) (held : List Held) (event : Held) → IfSome (day_place kind held event) (λ i. i < length held)
day_below kind held event = by (is_by_day (purpose_of kind))
  where
    by : (b : Bool) → IfSome (cond b (position (is_of_day (event.begin / 86400)) held) None) (λ i. i < length held)
    by true = found_below (is_of_day (event.begin / 86400)) held (position (is_of_day (event.begin / 86400)) held) refl
    by false = tt

some_of : (o : Option ℕ) (i n m : ℕ) → o ≡ Some i → IfSome o (λ j. j < n) → n ≡ m → i < m
some_of o i n m is below same = subst (λ (k : ℕ). i < k) same (subst (λ (p : Option ℕ). IfSome p (λ j. j < n)) is below)

module _ (kind : ℕ) (front x : List ℕ) where
  pub taken_below : (i : ℕ) → place_taken kind front x ≡ Some i → i < places_of kind
  taken_below i is = some_of (place_taken kind front x) i (length (held_table kind x)) (places_of kind) is (place_below kind (held_table kind x) (held_in kind front) (day_below kind (held_table kind x) (held_in kind front))) (length-held kind x)

  pub of_day_below : (i : ℕ) → place_of_day kind front x ≡ Some i → i < places_of kind
  of_day_below i is = some_of (place_of_day kind front x) i (length (held_table kind x)) (places_of kind) is (day_below kind (held_table kind x) (held_in kind front)) (length-held kind x)

-- ---- an entry from its front

-- it counts so many similar events, where its type counts them
abbrev CountsBy : (s : ℕ) → (widths : List ℕ) → List ℕ → Option ℕ → Type 0
CountsBy s widths bytes None = Unit {0}
CountsBy s widths bytes (Some field) = number_in widths field bytes ≡ s

module _ (s : ℕ) (front : List ℕ) where
  part_stays : (b : Bool) (p n : ℕ) → p + n ≤ length front → bytes_at (cond b front (front ++ s ∷ [])) p n ≡ bytes_at front p n
  part_stays true p n inside = refl
  part_stays false p n inside =
      ap (take n) (drop-append-le p front (s ∷ []) (omega (arith, inside)))
      ∙ take-append-le n (drop p front) (s ∷ []) (omega (arith, inside, length-drop p front))

  field_stays : (b : Bool) (widths : List ℕ) (last k : ℕ) → k < last → last < length widths → place_in widths last ≤ length front → field_at widths k (cond b front (front ++ s ∷ [])) ≡ field_at widths k front
  field_stays b widths last k before there inside =
      let below : k < length widths = omega (arith, before, there) in
      field_part widths k (cond b front (front ++ s ∷ [])) below
      ∙ part_stays b (place_in widths k) (slice_index widths k) (omega (arith, inside, place_next widths k last before (omega (arith, there))))
      ∙ sym (field_part widths k front below)

  over_stays : (b : Bool) (k : ℕ) → k < 7 → 30 ≤ length front → field_at over_widths k (cond b front (front ++ s ∷ [])) ≡ field_at over_widths k front
  over_stays b k before inside = field_stays b over_widths 7 k before (omega arith) inside

  event_stays : (b : Bool) (k : ℕ) → k < 8 → 82 ≤ length front → field_at event_widths k (cond b front (front ++ s ∷ [])) ≡ field_at event_widths k front
  event_stays b k before inside = field_stays b event_widths 8 k before (omega arith) inside

  -- the first fields of each type
  first_stays : (a b : Bool) (k : ℕ) → k < 4 → length front ≡ cond b (total_width (cond a over_widths (cond b fault_widths event_widths))) (total_width (cond a over_widths (cond b fault_widths event_widths)) - 1)
      → number_in (cond a over_widths (cond b fault_widths event_widths)) k (cond b front (front ++ s ∷ [])) ≡ number_in (cond a over_widths (cond b fault_widths event_widths)) k front
  first_stays true true k before size = refl
  first_stays false true k before size = refl
  first_stays true false k before size = ap (big_number (slice_index over_widths k)) (over_stays false k (omega (arith, before)) (omega (arith, size)))
  first_stays false false k before size = ap (big_number (slice_index event_widths k)) (event_stays false k (omega (arith, before)) (omega (arith, size)))

  last_byte : (n : ℕ) → length front ≡ n → slice_index_or (front ++ s ∷ []) n 0 ≡ s
  last_byte n size = ap (λ (k : ℕ). slice_index_or (front ++ s ∷ []) k 0) (sym size) ∙ get_or-append_seam front s [] 0

  counts_by : (a b : Bool) → length front ≡ cond b (total_width (cond a over_widths (cond b fault_widths event_widths))) (total_width (cond a over_widths (cond b fault_widths event_widths)) - 1)
      → CountsBy s (cond a over_widths (cond b fault_widths event_widths)) (cond b front (front ++ s ∷ [])) (cond b None (cond a (Some 7) (Some 8)))
  counts_by true true size = tt
  counts_by false true size = tt
  counts_by true false size = number_part over_widths 7 (front ++ s ∷ []) (omega arith) ∙ one_byte (front ++ s ∷ []) 30 ∙ last_byte 30 (omega (arith, size))
  counts_by false false size = number_part event_widths 8 (front ++ s ∷ []) (omega arith) ∙ one_byte (front ++ s ∷ []) 82 ∙ last_byte 82 (omega (arith, size))

-- the count as note_model says it
to_counts : (kind s : ℕ) (bytes : List ℕ) (o : Option ℕ) → CountsBy s (widths_of kind) bytes o → CountsSimilar kind s bytes o
to_counts kind s bytes None is = is
to_counts kind s bytes (Some field) is = is

module _ (kind s : ℕ) (front : List ℕ) (size : length front ≡ front_size kind) where
  pub first_fields : (k : ℕ) → k < 4 → number_in (widths_of kind) k (with_similar kind s front) ≡ number_in (widths_of kind) k front
  first_fields k before = first_stays s front (nat_eq kind OVER_SPEEDING) (nat_eq kind CARD_FAULT) k before size

  pub counts : CountsSimilar kind s (with_similar kind s front) (similar_field kind)
  counts = to_counts kind s (with_similar kind s front) (similar_field kind) (counts_by s front (nat_eq kind OVER_SPEEDING) (nat_eq kind CARD_FAULT) size)

  -- what decides on its place
  weight_stays : (a : Bool) → cond a (number_in over_widths 5 (with_similar kind s front)) 0 ≡ cond a (number_in over_widths 5 front) 0
  weight_stays true = ap (big_number 1) (over_stays s front (nat_eq kind CARD_FAULT) 5 (omega arith) (front_long kind s front size))
  weight_stays false = refl

  pub held_stays : held_in kind (with_similar kind s front) ≡ held_in kind front
  held_stays = λ t. record { begin = first_fields 2 (omega arith) t; end = first_fields 3 (omega arith) t; weight = weight_stays (nat_eq kind OVER_SPEEDING) t }

-- its cards and speeds
module _ (number : Card → List ℕ) (e : Event) (s : ℕ) (front : List ℕ) (b : Bool) where
  speeds_stay : 30 ≤ length front → HasSpeeds number e front → HasSpeeds number e (cond b front (front ++ s ∷ []))
  speeds_stay inside has = record {
    most = ap (big_number 1) (over_stays s front b 4 (omega arith) inside) ∙ has.most;
    average = ap (big_number 1) (over_stays s front b 5 (omega arith) inside) ∙ has.average;
    driver_begin = over_stays s front b 6 (omega arith) inside ∙ has.driver_begin;
  }

  numbers_stay : 82 ≤ length front → HasNumbers number e front → HasNumbers number e (cond b front (front ++ s ∷ []))
  numbers_stay inside has = record {
    driver_begin = event_stays s front b 4 (omega arith) inside ∙ has.driver_begin;
    codriver_begin = event_stays s front b 5 (omega arith) inside ∙ has.codriver_begin;
    driver_end = event_stays s front b 6 (omega arith) inside ∙ has.driver_end;
    codriver_end = event_stays s front b 7 (omega arith) inside ∙ has.codriver_end;
  }

  rest_stays : (a : Bool) → length front ≡ cond b (total_width (cond a over_widths (cond b fault_widths event_widths))) (total_width (cond a over_widths (cond b fault_widths event_widths)) - 1)
      → 30 ≤ length front → HasRest number a e front → HasRest number a e (cond b front (front ++ s ∷ []))
  rest_stays true size inside has = speeds_stay inside has
  rest_stays false size inside has = numbers_stay (long b size) has
    where
      long : (b : Bool) → length front ≡ cond b (total_width (cond b fault_widths event_widths)) (total_width (cond b fault_widths event_widths) - 1) → 82 ≤ length front
      long true size = omega (arith, size)
      long false size = omega (arith, size)

module _ (number : Card → List ℕ) (e : Event) (s : ℕ) (front : List ℕ) (is : IsFrontOf number e front) where
  pub entry_of_front : IsEntry number e s (with_similar e.kind s front)
  entry_of_front = record {
    front = record {
      size = entry_wide e.kind s front is.size;
      kind = first_fields e.kind s front is.size 0 (omega arith) ∙ is.kind;
      purpose = first_fields e.kind s front is.size 1 (omega arith) ∙ is.purpose;
      begin = first_fields e.kind s front is.size 2 (omega arith) ∙ is.begin;
      end = first_fields e.kind s front is.size 3 (omega arith) ∙ is.end;
    };
    rest = rest_stays number e s front (nat_eq e.kind CARD_FAULT) (nat_eq e.kind OVER_SPEEDING) is.size (front_long e.kind s front is.size) is.rest;
    counts = counts e.kind s front is.size;
  }

-- ---- the entry that stands

module _ (kind : ℕ) (x y : List ℕ) (long : length x ≡ 2485808) (i : ℕ) (below : i < places_of kind) where
  -- a whole entry is all that stands at its place
  whole_head : (head : List ℕ) → length head ≡ total_width (widths_of kind) → with_head (table_of kind) x i head ≡ head
  whole_head head wide =
      ap (λ (l : List ℕ). head ++ l) (drop_all (length head) (entry_at (table_of kind) x i) (omega (arith, wide, entry_long kind x long i below)))
      ∙ append-nil head

  pub replaced_table : (s : ℕ) (front : List ℕ) → length front ≡ front_size kind → IsReplaced (table_of kind) i (with_similar kind s front) x y
      → table_in kind y ≡ slice_set (table_in kind x) i (with_similar kind s front)
  replaced_table s front size replaced =
      table_set kind x long y i (with_similar kind s front) below (replaced.entry ∙ whole_head (with_similar kind s front) (entry_wide kind s front size)) replaced.others

  -- a count that is set
  abbrev old : List ℕ
  old = entry_at (table_of kind) x i

  abbrev counted : ℕ → List ℕ
  counted s = put (similar_place kind) (s ∷ []) old

  last_inside : similar_place kind + 1 ≤ length old
  last_inside = omega (arith, entry_long kind x long i below, (width_is kind).0)

  set_apart : (s : ℕ) → SameOutside (similar_place kind) 1 old (counted s)
  set_apart s = put_outside (similar_place kind) (s ∷ []) old last_inside

  pub set_table : (s : ℕ) → IsSet (table_of kind) i (similar_place kind) (s ∷ []) x y → table_in kind y ≡ slice_set (table_in kind x) i (counted s)
  set_table s set = table_set kind x long y i (counted s) below set.entry set.others

  set_number : (s : ℕ) → number_at (counted s) (similar_place kind) 1 ≡ s
  set_number s = ap (big_number 1) (part_put (similar_place kind) (s ∷ []) old last_inside) ∙ omega arith

  counts_at : (s : ℕ) (a b : Bool) (bytes : List ℕ) → number_at bytes (total_width (cond a over_widths (cond b fault_widths event_widths)) - 1) 1 ≡ s
      → CountsBy s (cond a over_widths (cond b fault_widths event_widths)) bytes (cond b None (cond a (Some 7) (Some 8)))
  counts_at s true true bytes stands = tt
  counts_at s false true bytes stands = tt
  counts_at s true false bytes stands = number_part over_widths 7 bytes (omega arith) ∙ stands
  counts_at s false false bytes stands = number_part event_widths 8 bytes (omega arith) ∙ stands

  pub one_more : (s : ℕ) → HasOneMore kind s (slice_index_or (table_in kind x) i []) (counted s)
  one_more s = rw (entry_in kind x long i below) (record {
    size = (set_apart s).same_length;
    front = part_before (similar_place kind) 1 0 (similar_place kind) old (counted s) (set_apart s) (omega arith);
    counts = to_counts kind s (counted s) (similar_field kind) (counts_at s (nat_eq kind OVER_SPEEDING) (nat_eq kind CARD_FAULT) (counted s) (set_number s));
  })

  -- it tells the same event
  pub counted_held : (s : ℕ) → held_in kind (counted s) ≡ held_in kind old
  counted_held s =
      let p : ℕ = similar_place kind in
      let high : 30 ≤ p = omega (arith, (width_is kind).0) in
      let before : (a n : ℕ) → a + n ≤ 30 → number_at (counted s) a n ≡ number_at old a n = λ a n le. number_before p 1 a n old (counted s) (set_apart s) (omega (arith, le, high)) in
      held_is (counted s) kind
      ∙ (λ t. record { begin = before 2 4 (omega arith) t; end = before 6 4 (omega arith) t; weight = cond (nat_eq kind OVER_SPEEDING) (before 11 1 (omega arith) t) 0 })
      ∙ sym (held_is old kind)

-- ---- an event of a run was noted

module _ (number : Card → List ℕ) (e : Event) (front x y : List ℕ) (long : length x ≡ 2485808) (is : IsFrontOf number e front) where
  held_same : held_in e.kind front ≡ held_of e
  held_same = λ t. record { begin = is.begin t; end = is.end t; weight = is.weight t }

  stands : (place day : Option ℕ) → place_taken e.kind front x ≡ place → place_of_day e.kind front x ≡ day → notes.IsNotedAt e.kind front x place day y
      → side.IsNotedAt number (table_in e.kind x) e place day (table_in e.kind y)
  stands (Some i) day taken of_day noted =
      let s : ℕ = similar_next e.kind x day in
      (with_similar e.kind s front, replaced_table e.kind x y long i (taken_below e.kind front x i taken) s front is.size noted, entry_of_front number e s front is)
  stands None (Some i) taken of_day noted =
      let s : ℕ = similar_next e.kind x (Some i) in
      let below = of_day_below e.kind front x i of_day in
      (counted e.kind x y long i below s, set_table e.kind x y long i below s noted, one_more e.kind x y long i below s)
  stands None None taken of_day noted = ap (table_in e.kind) noted

  pub is_noted : IsEventNoted e.kind front x y → side.IsNoted number (table_in e.kind x) e (table_in e.kind y)
  unfolding held_table
  is_noted noted =
      subst (λ (h : Held). side.IsNotedAt number (table_in e.kind x) e (place_for e.kind (map (held_in e.kind) (table_in e.kind x)) h) (day_place e.kind (map (held_in e.kind) (table_in e.kind x)) h) (table_in e.kind y)) held_same
      (stands (place_taken e.kind front x) (place_of_day e.kind front x) refl refl noted.entry)

-- ---- the held events are those noted

module _ (kind : ℕ) (front x y : List ℕ) (long : length x ≡ 2485808) (size : length front ≡ front_size kind) where
  held_by : (place day : Option ℕ) → place_taken kind front x ≡ place → place_of_day kind front x ≡ day → notes.IsNotedAt kind front x place day y
      → held_table kind y ≡ placed (held_table kind x) (held_in kind front) place
  unfolding held_table
  held_by (Some i) day taken of_day noted =
      let s : ℕ = similar_next kind x day in
      ap (map (held_in kind)) (replaced_table kind x y long i (taken_below kind front x i taken) s front size noted)
      ∙ map-set (held_in kind) (table_in kind x) i (with_similar kind s front)
      ∙ ap (slice_set (map (held_in kind) (table_in kind x)) i) (held_stays kind s front size)
  held_by None (Some i) taken of_day noted =
      let s : ℕ = similar_next kind x (Some i) in
      let below = of_day_below kind front x i of_day in
      ap (map (held_in kind)) (set_table kind x y long i below s noted)
      ∙ map-set_same (held_in kind) (table_in kind x) i (counted kind x y long i below s) [] (counted_held kind x y long i below s ∙ ap (held_in kind) (sym (entry_in kind x long i below)))
  held_by None None taken of_day noted = ap (λ (l : List ℕ). map (held_in kind) (table_in kind l)) noted

  pub held_noted : IsEventNoted kind front x y → held_table kind y ≡ noted kind (held_table kind x) (held_in kind front)
  held_noted done = held_by (place_taken kind front x) (place_of_day kind front x) refl refl done.entry

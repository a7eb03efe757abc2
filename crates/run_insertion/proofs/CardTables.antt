-- What stands at the places of a card's events, as one event or several are noted, and behind calls that leave them.
use Rattle.std.proofs.Common.{◌≡◌, ◌≢◌, ◌⊎◌, ◌∙◌, inl, inr, ⊎_elim, ℕ, zero, suc, ◌+◌, ◌*◌, ◌<◌, ◌≤◌, Bool, true, false, cond, Option, Some, None, List, [], ◌∷◌, ◌++◌, length, drop, refl, sym, ap, subst, arith, length-set, get_or-set_same, get_or-set_other, ext_get_or}
use Rattle.std.specs.Prelude.{nat_eq, nat_lt, nat_le, ◌&&◌, ◌||◌, not, ◌==◌, slice_index_or, slice_set}
use Rattle.std.specs.List.{list_all, list_any, position_or_len, AllByRecursion}
use Rattle.std.proofs.lemmas.Bool.{eqb-true, eqb-false, eq-eqb, ne_eqb, lt-ltb, le-leb, ltb-true, ltb-false, leb-true}
use Rattle.std.proofs.lemmas.List.FromFn.{length-map-range_with_len, get_or-map-range_with_len}
use Rattle.std.proofs.lemmas.List.Sums.{position_or_len_is}
use Rattle.std.proofs.Math.Nat.{mul-le-mul_right}
use Rattle.activity_codec.proofs.ByTest.{by_test}
use Rattle.card_layout.specs.Images.{bytes_at, number_at, SameOutside}
use Rattle.card_layout.proofs.Images.{part_before, part_after, part_in}
use Rattle.card_layout.proofs.Spelled.{number_within}
use Rattle.card_layout.specs.declared.files.Application.{Application}
use Rattle.card_layout.specs.Files.{place_of as place_of_file, size_of as size_of_file}
use Rattle.run_events.specs.gated_ring.Ring.{Shape, entry_at, gate_of, place_of}
use Rattle.run_events.specs.gated_ring.Change.{SameOthers, IsReplaced, IsAbsent}
use Rattle.run_events.proofs.gated_ring.Places.{place_high}
use Rattle.run_events.specs.card_files.declared.card_event.CardEvent.{CardEvent}
use Rattle.run_events.specs.card_files.Events.{event_bytes}
use Rattle.run_events.specs.card_files.Rings.{file, event_ring, set_of, set_size}
use Rattle.run_events.specs.card_files.Noting.{TakesPlace, IsNotingEvent, IsEventNoted}
use Rattle.run_events.proofs.card_files.Sets.{set_inside}
use Rattle.card_validity.specs.card_image.Fields.{file_bytes}
use Rattle.unit_notes.specs.event_model.Places.{earliest}
use Rattle.unit_notes.specs.event_model.declared.kinds.TheConstants.{SESSION_NOT_CLOSED}
use Rattle.run_insertion.specs.Noted.{AreDone, AreBeingDone}
use Rattle.run_insertion.specs.CardEvents.{events_in, begin_of, written, noted_in, is_held, is_told, with_event, all_noted, IsEmptied, AreBeingNoted, of_type, ShowsThese, ShowsMore, IsOnCards, IsPlain}

-- ---- tests of lists

no-true : false ≡ true → ⊥
no-true e = cc

none-passes : (b : Bool) → (b && false) ≡ false
none-passes true = refl
none-passes false = refl

one-passes : (b : Bool) → (b || true) ≡ true
one-passes true = refl
one-passes false = refl

all-hold : {X : Type 0} (q : X → Bool) (d : X) (xs : List X) → ((j : ℕ) → j < length xs → q (slice_index_or xs j d) ≡ true) → list_all q xs ≡ true
all-hold q d [] each = refl
all-hold q d (x ∷ xs) each =
    let here : q x ≡ true = each zero (omega arith) in
    rw here (all-hold q d xs (λ j below. each (suc j) (omega (arith, below))))

one-fails : {X : Type 0} (q : X → Bool) (d : X) (xs : List X) (i : ℕ) → i < length xs → q (slice_index_or xs i d) ≡ false → list_all q xs ≡ false
one-fails q d [] i below fails = absurd (omega (arith, below))
one-fails q d (x ∷ xs) zero below fails = let here : q x ≡ false = fails in rw here refl
one-fails q d (x ∷ xs) (suc i) below fails = let rest = one-fails q d xs i (omega (arith, below)) fails in rw rest (none-passes (q x))

pub one-holds : {X : Type 0} (q : X → Bool) (d : X) (xs : List X) (i : ℕ) → i < length xs → q (slice_index_or xs i d) ≡ true → list_any q xs ≡ true
one-holds q d [] i below holds = absurd (omega (arith, below))
one-holds q d (x ∷ xs) zero below holds = let here : q x ≡ true = holds in rw here refl
one-holds q d (x ∷ xs) (suc i) below holds = let rest = one-holds q d xs i (omega (arith, below)) holds in rw rest (one-passes (q x))

pub where-holds : {X : Type 0} (q : X → Bool) (d : X) (xs : List X) → list_any q xs ≡ true → (i : ℕ) × (i < length xs) × (q (slice_index_or xs i d) ≡ true)
where-holds q d [] any = absurd (no-true any)
where-holds q d (x ∷ xs) any =
    by_test (q x)
    (λ is. (zero, omega arith, is))
    (λ is.
    let rest = where-holds q d xs (rw is at any) in
    (suc rest.0, let low = rest.1 in omega (arith, low), rest.2))

-- ---- the place that an event takes

module _ (table : List (List ℕ)) (i : ℕ) (below : i < length table)
    (least : (j : ℕ) → j < length table → begin_of (slice_index_or table i []) ≤ begin_of (slice_index_or table j []))
    (first : (j : ℕ) → j < i → begin_of (slice_index_or table i []) < begin_of (slice_index_or table j [])) where
  abbrev is_least : List ℕ → Bool
  is_least x = list_all (λ y. nat_le (begin_of x) (begin_of y)) table

  fails-before : (k : ℕ) → k < i → is_least (slice_index_or table k []) ≡ false
  fails-before k before =
      let more = first k before in
      one-fails (λ y. nat_le (begin_of (slice_index_or table k [])) (begin_of y)) [] table i below
      (by_test (nat_le (begin_of (slice_index_or table k [])) (begin_of (slice_index_or table i [])))
      (λ is. let le = leb-true (begin_of (slice_index_or table k [])) (begin_of (slice_index_or table i [])) is in absurd (omega (arith, le, more)))
      (λ is. is))

  passes-there : is_least (slice_index_or table i []) ≡ true
  passes-there = all-hold (λ y. nat_le (begin_of (slice_index_or table i [])) (begin_of y)) [] table
      (λ j low. le-leb (begin_of (slice_index_or table i [])) (begin_of (slice_index_or table j [])) (least j low))

  pub earliest-is : earliest begin_of table ≡ Some i
  earliest-is =
      let at : position_or_len is_least table ≡ i = position_or_len_is is_least table i [] (omega (arith, below)) fails-before (λ h. passes-there) in
      ap (λ (n : ℕ). cond (nat_lt n (length table)) (Some n) None) at ∙ ap (λ (b : Bool). cond b (Some i) None) (lt-ltb i (length table) below)

-- ---- of an image

module _ (app : Application) (kind : ℕ) (x : List ℕ) where
  pub length-events : length (events_in app kind x) ≡ app.events
  unfolding events_in
  length-events = length-map-range_with_len (entry_at (event_ring app kind) x) 0 app.events

  pub event-at : (i : ℕ) → i < app.events → slice_index_or (events_in app kind x) i [] ≡ entry_at (event_ring app kind) x i
  unfolding events_in
  event-at i below = get_or-map-range_with_len (entry_at (event_ring app kind) x) 0 app.events i i [] below (omega arith)

  entry-begins : (i : ℕ) → begin_of (entry_at (event_ring app kind) x i) ≡ number_at x (gate_of (event_ring app kind) i) 4
  entry-begins i = number_within x (place_of (event_ring app kind) i) 24 1 4 (omega arith)

  begin-at : (i : ℕ) → i < app.events → begin_of (slice_index_or (events_in app kind x) i []) ≡ number_at x (gate_of (event_ring app kind) i) 4
  begin-at i below = ap (λ (e : List ℕ). begin_of e) (event-at i below) ∙ entry-begins i

  pub takes-place : (i : ℕ) → TakesPlace (event_ring app kind) x i → earliest begin_of (events_in app kind x) ≡ Some i
  takes-place i takes =
      let long = length-events in
      let low : i < app.events = takes.below in
      let mine = begin-at i low in
      earliest-is (events_in app kind x) i (omega (arith, long, low))
      (λ j below. let inside : j < app.events = omega (arith, long, below) in let its = begin-at j inside in let le = takes.least j inside in omega (arith, mine, its, le))
      (λ j before. let inside : j < app.events = omega (arith, before, low) in let its = begin-at j inside in let lt = takes.first j before in omega (arith, mine, its, lt))

-- one entry is another
module _ (app : Application) (kind : ℕ) (x y : List ℕ) (i : ℕ) (below : i < app.events) (others : SameOthers (event_ring app kind) i x y) where
  pub events-set : (bytes : List ℕ) → entry_at (event_ring app kind) y i ≡ bytes → events_in app kind y ≡ slice_set (events_in app kind x) i bytes
  events-set bytes entry =
      let long_x = length-events app kind x in
      let long_y = length-events app kind y in
      let long_set = length-set (events_in app kind x) i bytes in
      ext_get_or [] (events_in app kind y) (slice_set (events_in app kind x) i bytes) (omega (arith, long_x, long_y, long_set))
      (λ j low. at j (omega (arith, low, long_y)))
    where
      at : (j : ℕ) → j < app.events → slice_index_or (events_in app kind y) j [] ≡ slice_index_or (slice_set (events_in app kind x) i bytes) j []
      at j low = by_test (nat_eq j i)
          (λ is.
          let same : j ≡ i = eqb-true j i is in
          let long_x = length-events app kind x in
          subst (λ (n : ℕ). slice_index_or (events_in app kind y) n [] ≡ slice_index_or (slice_set (events_in app kind x) i bytes) n []) (sym same)
          (event-at app kind y i below ∙ entry ∙ sym (get_or-set_same (events_in app kind x) i bytes [] (omega (arith, long_x, below)))))
          (λ is.
          let ne : j ≢ i = eqb-false j i is in
          event-at app kind y j low ∙ (others j low ne).0 ∙ sym (event-at app kind x j low) ∙ sym (get_or-set_other (events_in app kind x) i j bytes [] ne))

-- the same bytes
events-by : (app : Application) (kind : ℕ) (x c : List ℕ) → ((j : ℕ) → j < app.events → entry_at (event_ring app kind) c j ≡ entry_at (event_ring app kind) x j) → events_in app kind c ≡ events_in app kind x
events-by app kind x c each =
    let long_x = length-events app kind x in
    let long_c = length-events app kind c in
    ext_get_or [] (events_in app kind c) (events_in app kind x) (omega (arith, long_x, long_c))
    (λ j low. let inside : j < app.events = omega (arith, low, long_c) in event-at app kind c j inside ∙ each j inside ∙ sym (event-at app kind x j inside))

set-last : (app : Application) (kind j : ℕ) → j < app.events → place_of (event_ring app kind) j + 24 ≤ place_of_file app (file 0x0502) + size_of_file app (file 0x0502)
set-last app kind j below = omega (arith, place_high (event_ring app kind) j below, set_inside app kind)

pub same-file : (app : Application) (x c : List ℕ) → file_bytes app 0x0502 c ≡ file_bytes app 0x0502 x → (kind : ℕ) → events_in app kind c ≡ events_in app kind x
same-file app x c same kind = events-by app kind x c each
  where
    each : (j : ℕ) → j < app.events → entry_at (event_ring app kind) c j ≡ entry_at (event_ring app kind) x j
    each j below =
        let fits : set_of kind * set_size app + j * 24 + 24 ≤ size_of_file app (file 0x0502) = let high = set-last app kind j below in omega (arith, high) in
        let at : place_of_file app (file 0x0502) + (set_of kind * set_size app + j * 24) ≡ place_of (event_ring app kind) j = omega arith in
        let part : (l : List ℕ) → bytes_at l (place_of (event_ring app kind) j) 24 ≡ bytes_at (file_bytes app 0x0502 l) (set_of kind * set_size app + j * 24) 24 = λ l.
        ap (λ (p : ℕ). bytes_at l p 24) (sym at) ∙ sym (part_in l (place_of_file app (file 0x0502)) (size_of_file app (file 0x0502)) (set_of kind * set_size app + j * 24) 24 fits) in
        part c ∙ ap (λ (l : List ℕ). bytes_at l (set_of kind * set_size app + j * 24) 24) same ∙ sym (part x)

-- ---- the set of another type

set-before : (base size s t : ℕ) → s < t → base + s * size + size ≤ base + t * size
set-before base size s t less = let more : s + 1 ≤ t = omega (arith, less) in omega (arith, mul-le-mul_right size more)

module _ (app : Application) (mine kind i : ℕ) (below : i < app.events) (x c : List ℕ) (outside : SameOutside (place_of (event_ring app mine) i) 24 x c) where
  pub other-set : set_of mine ≢ set_of kind → events_in app kind c ≡ events_in app kind x
  other-set ne = events-by app kind x c (λ j low. by_test (nat_lt (set_of mine) (set_of kind))
      (λ is.
      let less = set-before (place_of_file app (file 0x0502)) (set_size app) (set_of mine) (set_of kind) (ltb-true (set_of mine) (set_of kind) is) in
      let high = place_high (event_ring app mine) i below in
      part_after (place_of (event_ring app mine) i) 24 (place_of (event_ring app kind) j) 24 x c outside (omega (arith, less, high)))
      (λ is.
      let le = ltb-false (set_of mine) (set_of kind) is in
      let lt : set_of kind < set_of mine = less_than (set_of kind) (set_of mine) le (λ same. ne (sym same)) in
      let less = set-before (place_of_file app (file 0x0502)) (set_size app) (set_of kind) (set_of mine) lt in
      let high = place_high (event_ring app kind) j low in
      part_before (place_of (event_ring app mine) i) 24 (place_of (event_ring app kind) j) 24 x c outside (omega (arith, less, high))))
    where
      less_than : (a b : ℕ) → a ≤ b → a ≢ b → a < b
      less_than a b le ne = omega (arith, le, ne)

-- the sets of the types of which a run notes events are their own
abbrev set_by : (b3 b5 b6 b8 b9 : Bool) → ℕ
set_by b3 b5 b6 b8 b9 = cond b3 0 (cond b5 1 (cond b6 2 (cond b8 3 (cond b9 4 5))))

set-of-5 : (kind : ℕ) → set_of kind ≡ 1 → kind ≡ 5
set-of-5 kind is = go (kind == 3) (kind == 5) (kind == 6) (kind == 8) (kind == 9) (λ e. eqb-true kind 5 e) is
  where
    go : (b3 b5 b6 b8 b9 : Bool) → (b5 ≡ true → kind ≡ 5) → set_by b3 b5 b6 b8 b9 ≡ 1 → kind ≡ 5
    go true b5 b6 b8 b9 by e = absurd (omega (arith, e))
    go false true b6 b8 b9 by e = by refl
    go false false true b8 b9 by e = absurd (omega (arith, e))
    go false false false true b9 by e = absurd (omega (arith, e))
    go false false false false true by e = absurd (omega (arith, e))
    go false false false false false by e = absurd (omega (arith, e))

set-of-6 : (kind : ℕ) → set_of kind ≡ 2 → kind ≡ 6
set-of-6 kind is = go (kind == 3) (kind == 5) (kind == 6) (kind == 8) (kind == 9) (λ e. eqb-true kind 6 e) is
  where
    go : (b3 b5 b6 b8 b9 : Bool) → (b6 ≡ true → kind ≡ 6) → set_by b3 b5 b6 b8 b9 ≡ 2 → kind ≡ 6
    go true b5 b6 b8 b9 by e = absurd (omega (arith, e))
    go false true b6 b8 b9 by e = absurd (omega (arith, e))
    go false false true b8 b9 by e = by refl
    go false false false true b9 by e = absurd (omega (arith, e))
    go false false false false true by e = absurd (omega (arith, e))
    go false false false false false by e = absurd (omega (arith, e))

set-of-8 : (kind : ℕ) → set_of kind ≡ 3 → kind ≡ 8
set-of-8 kind is = go (kind == 3) (kind == 5) (kind == 6) (kind == 8) (kind == 9) (λ e. eqb-true kind 8 e) is
  where
    go : (b3 b5 b6 b8 b9 : Bool) → (b8 ≡ true → kind ≡ 8) → set_by b3 b5 b6 b8 b9 ≡ 3 → kind ≡ 8
    go true b5 b6 b8 b9 by e = absurd (omega (arith, e))
    go false true b6 b8 b9 by e = absurd (omega (arith, e))
    go false false true b8 b9 by e = absurd (omega (arith, e))
    go false false false true b9 by e = by refl
    go false false false false true by e = absurd (omega (arith, e))
    go false false false false false by e = absurd (omega (arith, e))

sets-apart : (mine kind : ℕ) → IsOnCards mine → mine ≢ kind → set_of mine ≢ set_of kind
sets-apart mine kind (inl is) ne same = ne (is ∙ sym (set-of-5 kind (sym same ∙ ap (λ (k : ℕ). set_of k) is)))
sets-apart mine kind (inr (inl is)) ne same = ne (is ∙ sym (set-of-6 kind (sym same ∙ ap (λ (k : ℕ). set_of k) is)))
sets-apart mine kind (inr (inr is)) ne same = ne (is ∙ sym (set-of-8 kind (sym same ∙ ap (λ (k : ℕ). set_of k) is)))

-- ---- one event

not-not : (b : Bool) → not b ≡ false → b ≡ true
not-not true e = refl
not-not false e = absurd (no-true (sym e))

module _ (app : Application) (event : CardEvent) (x : List ℕ) where
  abbrev r : Shape
  r = event_ring app event.kind

  -- at its place
  replaced-noted : (y : List ℕ) (i : ℕ) → TakesPlace r x i → IsReplaced r i (event_bytes event) x y → events_in app event.kind y ≡ noted_in (events_in app event.kind x) event
  replaced-noted y i takes is =
      events-set app event.kind x y i takes.below is.others (event_bytes event ++ drop (length (event_bytes event)) (slice_index_or (events_in app event.kind x) i []))
      (is.entry ∙ ap (λ (l : List ℕ). event_bytes event ++ drop (length (event_bytes event)) l) (sym (event-at app event.kind x i takes.below)))
      ∙ ap (λ (o : Option ℕ). written (event_bytes event) (events_in app event.kind x) o) (sym (takes-place app event.kind x i takes))

  absent-emptied : (c : List ℕ) (i : ℕ) → TakesPlace r x i → IsAbsent r i x c → IsEmptied (events_in app event.kind x) (earliest begin_of (events_in app event.kind x)) (events_in app event.kind c)
  absent-emptied c i takes is =
      subst (λ (o : Option ℕ). IsEmptied (events_in app event.kind x) o (events_in app event.kind c)) (sym (takes-place app event.kind x i takes)) (
        entry_at r c i,
        entry-begins app event.kind c i ∙ eqb-true (number_at c (gate_of r i) 4) 0 (not-not (number_at c (gate_of r i) 4 == 0) is.shut),
        events-set app event.kind x c i takes.below is.others (entry_at r c i) refl,
      )

  pub noted-here : (y : List ℕ) → IsEventNoted app event x y → events_in app event.kind y ≡ noted_in (events_in app event.kind x) event
  noted-here y is = replaced-noted y is.place is.takes is.entry

  pub noted-elsewhere : (y : List ℕ) → IsOnCards event.kind → IsEventNoted app event x y → (kind : ℕ) → event.kind ≢ kind → events_in app kind y ≡ events_in app kind x
  noted-elsewhere y on is kind ne = other-set app event.kind kind is.place is.takes.below x y is.entry.outside (sets-apart event.kind kind on ne)

  -- a moment: as it was, or emptied, or noted
  abbrev IsAtOnce : List (List ℕ) → Type 0
  IsAtOnce new =
      (new ≡ events_in app event.kind x) ⊎ (IsEmptied (events_in app event.kind x) (earliest begin_of (events_in app event.kind x)) new ⊎ (new ≡ noted_in (events_in app event.kind x) event))

  noting-here : (c : List ℕ) → IsNotingEvent app event x c → IsAtOnce (events_in app event.kind c)
  noting-here c is = ⊎_elim
      (λ same. inl (ap (λ (l : List ℕ). events_in app event.kind l) same))
      (λ changed. ⊎_elim (λ absent. inr (inl (absent-emptied c is.place is.takes absent))) (λ replaced. inr (inr (replaced-noted c is.place is.takes replaced))) changed)
      is.entry

  noting-elsewhere : (c : List ℕ) → IsOnCards event.kind → IsNotingEvent app event x c → (kind : ℕ) → event.kind ≢ kind → events_in app kind c ≡ events_in app kind x
  noting-elsewhere c on is kind ne = ⊎_elim
      (λ same. ap (λ (l : List ℕ). events_in app kind l) same)
      (λ changed. ⊎_elim
      (λ absent. other-set app event.kind kind is.place is.takes.below x c absent.outside (sets-apart event.kind kind on ne))
      (λ replaced. other-set app event.kind kind is.place is.takes.below x c replaced.outside (sets-apart event.kind kind on ne))
      changed)
      is.entry

-- ---- several of them

pub being-unbegun : (table : List (List ℕ)) (es : List CardEvent) → AreBeingNoted table es table
being-unbegun table [] = refl
being-unbegun table (e ∷ es) = inl refl

pub being-all : (table : List (List ℕ)) (es : List CardEvent) → AreBeingNoted table es (all_noted table es)
being-all table [] = refl
being-all table (e ∷ es) = inr (inr (being-all (with_event table e) es))

being-more : (table : List (List ℕ)) (e : CardEvent) (es : List CardEvent) (new : List (List ℕ)) → AreBeingNoted (with_event table e) es new → AreBeingNoted table (e ∷ es) new
being-more table e es new is = inr (inr is)

-- it is noted whatever is held
pub with-new : (table : List (List ℕ)) (e : CardEvent) → is_told table e ≡ false → with_event table e ≡ noted_in table e
with-new table e new = ap (λ (b : Bool). cond b table (noted_in table e)) new

pub with-held : (table : List (List ℕ)) (e : CardEvent) → is_told table e ≡ true → with_event table e ≡ table
with-held table e held = ap (λ (b : Bool). cond b table (noted_in table e)) held

pub never-told : (table : List (List ℕ)) (e : CardEvent) → e.kind ≢ SESSION_NOT_CLOSED → is_told table e ≡ false
never-told table e other = ap (λ (b : Bool). b && is_held table e.kind e.begin.0) (ne_eqb e.kind SESSION_NOT_CLOSED other)

module _ (kind : ℕ) (e : CardEvent) (es : List CardEvent) where
  pub of-more : e.kind ≡ kind → of_type kind (e ∷ es) ≡ e ∷ of_type kind es
  of-more is = ap (λ (b : Bool). cond b (e ∷ of_type kind es) (of_type kind es)) (eq-eqb e.kind kind is)

  pub of-others : e.kind ≢ kind → of_type kind (e ∷ es) ≡ of_type kind es
  of-others ne = ap (λ (b : Bool). cond b (e ∷ of_type kind es) (of_type kind es)) (ne_eqb e.kind kind ne)

pub shows-from : (cut : Bool) (table old new : List (List ℕ)) (es : List CardEvent) → old ≡ table → ShowsThese cut old es new → ShowsThese cut table es new
shows-from cut table old new es same is = subst (λ (l : List (List ℕ)). ShowsThese cut l es new) same is

pub shows-as : (cut : Bool) (table new : List (List ℕ)) (es fs : List CardEvent) → es ≡ fs → ShowsThese cut table es new → ShowsThese cut table fs new
shows-as cut table new es fs same is = subst (λ (l : List CardEvent). ShowsThese cut table l new) same is

pub shows-behind : (app : Application) (es : List CardEvent) (cut : Bool) (x y c : List ℕ) → ((kind : ℕ) → events_in app kind y ≡ events_in app kind x) → ShowsMore app es cut y c → ShowsMore app es cut x c
shows-behind app es cut x y c same is kind = shows-from cut (events_in app kind x) (events_in app kind y) (events_in app kind c) (of_type kind es) (same kind) (is kind)

-- ONE EVENT of its type, then others, whose first is noted from x to y
module _ (app : Application) (e : CardEvent) (es : List CardEvent) (on : IsOnCards e.kind) (x y : List ℕ) where
  module _ (first : events_in app e.kind y ≡ with_event (events_in app e.kind x) e) (others : (kind : ℕ) → e.kind ≢ kind → events_in app kind y ≡ events_in app kind x) where
    pub more-then : (cut : Bool) (c : List ℕ) → ShowsMore app es cut y c → ShowsMore app (e ∷ es) cut x c
    more-then cut c rest kind = by_test (nat_eq e.kind kind)
        (λ is.
        let same : e.kind ≡ kind = eqb-true e.kind kind is in
        shows-as cut (events_in app kind x) (events_in app kind c) (e ∷ of_type kind es) (of_type kind (e ∷ es)) (sym (of-more kind e es same))
        (one cut (events_in app kind x) (events_in app kind y) (events_in app kind c) (of_type kind es)
        (subst (λ (k : ℕ). events_in app k y ≡ with_event (events_in app k x) e) same first) (rest kind)))
        (λ is.
        let ne : e.kind ≢ kind = eqb-false e.kind kind is in
        shows-as cut (events_in app kind x) (events_in app kind c) (of_type kind es) (of_type kind (e ∷ es)) (sym (of-others kind e es ne))
        (shows-from cut (events_in app kind x) (events_in app kind y) (events_in app kind c) (of_type kind es) (others kind ne) (rest kind)))
      where
        one : (cut : Bool) (old mid new : List (List ℕ)) (fs : List CardEvent) → mid ≡ with_event old e → ShowsThese cut mid fs new → ShowsThese cut old (e ∷ fs) new
        one false old mid new fs is shows = shows ∙ ap (λ (l : List (List ℕ)). all_noted l fs) is
        one true old mid new fs is shows = being-more old e fs new (subst (λ (l : List (List ℕ)). AreBeingNoted l fs new) is shows)

-- the first of them is being noted
pub more-begun : (app : Application) (e : CardEvent) (es : List CardEvent) → IsOnCards e.kind → (x c : List ℕ) → is_told (events_in app e.kind x) e ≡ false → IsNotingEvent app e x c → ShowsMore app (e ∷ es) true x c
more-begun app e es on x c new is kind = by_test (nat_eq e.kind kind)
    (λ test.
    let same : e.kind ≡ kind = eqb-true e.kind kind test in
    subst (λ (fs : List CardEvent). AreBeingNoted (events_in app kind x) fs (events_in app kind c)) (sym (of-more kind e es same))
    (subst (λ (k : ℕ). AreBeingNoted (events_in app k x) (e ∷ of_type kind es) (events_in app k c)) same (here (of_type kind es))))
    (λ test.
    let ne : e.kind ≢ kind = eqb-false e.kind kind test in
    subst (λ (fs : List CardEvent). AreBeingNoted (events_in app kind x) fs (events_in app kind c)) (sym (of-others kind e es ne))
    (subst (λ (l : List (List ℕ)). AreBeingNoted (events_in app kind x) (of_type kind es) l) (sym (noting-elsewhere app e x c on is kind ne)) (being-unbegun (events_in app kind x) (of_type kind es))))
  where
    table : List (List ℕ)
    table = events_in app e.kind x

    here : (fs : List CardEvent) → AreBeingNoted (events_in app e.kind x) (e ∷ fs) (events_in app e.kind c)
    here fs = ⊎_elim
        (λ was. inl was)
        (λ changed. ⊎_elim
        (λ emptied. inr (inl (new, emptied)))
        (λ noted. inr (inr (subst (λ (l : List (List ℕ)). AreBeingNoted (with_event (events_in app e.kind x) e) fs l) (with-new (events_in app e.kind x) e new ∙ sym noted) (being-unbegun (with_event (events_in app e.kind x) e) fs))))
        changed)
        (noting-here app e x c is)

module _ (app : Application) where
  noted-first : (e : CardEvent) → IsPlain e → (x y : List ℕ) → IsEventNoted app e x y → events_in app e.kind y ≡ with_event (events_in app e.kind x) e
  noted-first e plain x y is = noted-here app e x y is ∙ sym (with-new (events_in app e.kind x) e (never-told (events_in app e.kind x) e plain.1))

  pub all-shown : (es : List CardEvent) → AllByRecursion IsPlain es → (x y : List ℕ) → AreDone (IsEventNoted app) es x y → ShowsMore app es false x y
  all-shown [] plain x y is = λ kind. ap (λ (l : List ℕ). events_in app kind l) is
  all-shown (e ∷ es) plain x y (z, first, rest) =
      more-then app e es plain.0.0 x z (noted-first e plain.0 x z first) (noted-elsewhere app e x z plain.0.0 first) false y (all-shown es plain.1 z y rest)

  pub all-showing : (es : List CardEvent) → AllByRecursion IsPlain es → (x c : List ℕ) → AreBeingDone (IsEventNoted app) (IsNotingEvent app) es x c → ShowsMore app es true x c
  all-showing [] plain x c is = absurd is
  all-showing (e ∷ es) plain x c (inl noting) = more-begun app e es plain.0.0 x c (never-told (events_in app e.kind x) e plain.0.1) noting
  all-showing (e ∷ es) plain x c (inr (z, first, rest)) =
      more-then app e es plain.0.0 x z (noted-first e plain.0 x z first) (noted-elsewhere app e x z plain.0.0 first) true c (all-showing es plain.1 z c rest)

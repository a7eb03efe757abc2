-- Each held event of a type that keeps one a day counts the events of its day.
use Rattle.std.proofs.Common.{◌≡◌, ◌≢◌, ◌∙◌, ◌⊎◌, inl, inr, ℕ, zero, suc, ◌+◌, ◌/◌, ◌<◌, ◌≤◌, min, Bool, true, false, cond, Option, Some, None, List, [], ◌∷◌, ◌++◌, length, refl, ap, sym, subst, arith, append-nil, append_assoc, All}
use Rattle.std.specs.Prelude.{nat_lt, ◌==◌, ◌&&◌, not, position, slice_set}
use Rattle.std.specs.List.{list_any}
use Rattle.std.proofs.lemmas.Bool.{eqb-true, eqb-false, eq-eqb, ne_eqb, ltb-true, ltb-false, cases_eq}
use Rattle.std.proofs.lemmas.List.{length-append, length-map, map-set, length-set, get_or-set_same, get_or-set_other}
use Rattle.std.proofs.Math.ListN.{get_or-map}
use Rattle.std.proofs.Math.Seq.{map-set_same}
use Rattle.std.proofs.lemmas.List.Elements.{All-nil, All-cons, All-head, All-tail}
use Rattle.std.proofs.lemmas.List.Quantifiers.{position-Some}
use Rattle.activity_codec.proofs.ByTest.{by_test}
use Rattle.event_model.specs.declared.kinds.Purpose.{Purpose}
use Rattle.event_model.specs.declared.entries.Held.{Held}
use Rattle.event_model.specs.Kinds.{purpose_of, is_by_day}
use Rattle.event_model.specs.Places.{earliest, held_at, where_later, is_of_day, measure, place_beside, day_place, place_of, placed, noted, similar_after}
use Rattle.event_model.specs.Kept.{stored, on_day, KeepsRecent, KeepsDays, all_noted}
use Rattle.event_model.specs.Counted.{Counted, held_of, counted_in, similar_in, counted_at, counted, all_counted, similar_on, CountsDays}
use Rattle.event_model.proofs.Retaining.{and-first, and-second, stored-one, stored-none, stored-most}
use Rattle.event_model.proofs.Daily.{on-append, on-here, on-off, any-none, position-none, Other}
use Rattle.event_model.proofs.Noting.{recently, daily}

-- ---- one place of a list and those beside it

abbrev none_held : Held
none_held = record { begin = 0; end = 0; weight = 0 }

-- how many stored events are of a day
abbrev many_on : ℕ → List Held → ℕ
many_on day held = length (on_day day (stored held))

day_parts : (day : ℕ) (h : Held) → is_of_day day h ≡ true → (0 < h.begin) × (h.begin / 86400 ≡ day)
day_parts day h is =
    let real : (h.begin == 0) ≡ false = not_true (h.begin == 0) (and-first (not (h.begin == 0)) (h.begin / 86400 == day) is) in
    let ne = eqb-false h.begin 0 real in
    (omega (arith, ne), eqb-true (h.begin / 86400) day (and-second (not (h.begin == 0)) (h.begin / 86400 == day) is))
  where
    not_true : (b : Bool) → not b ≡ true → b ≡ false
    not_true true h = cc
    not_true false h = refl

many_more : (day : ℕ) (x : Held) (xs : List Held) → many_on day xs ≤ many_on day (x ∷ xs)
many_more day x xs =
    by_test (x.begin == 0)
    (λ none. let e = ap (λ (l : List Held). length (on_day day l)) (stored-none x xs (eqb-true x.begin 0 none)) in omega (arith, e))
    (λ real.
    let ne = eqb-false x.begin 0 real in
    let some : 0 < x.begin = omega (arith, ne) in
    let e = ap (λ (l : List Held). length (on_day day l)) (stored-one x xs some) in
    by_test (x.begin / 86400 == day)
    (λ is. let n = ap length (on-here day x (stored xs) (eqb-true (x.begin / 86400) day is)) in omega (arith, e, n))
    (λ is. let n = ap length (on-off day x (stored xs) (eqb-false (x.begin / 86400) day is)) in omega (arith, e, n)))

many_here : (day : ℕ) (x : Held) (xs : List Held) → is_of_day day x ≡ true → many_on day (x ∷ xs) ≡ many_on day xs + 1
many_here day x xs is =
    let parts = day_parts day x is in
    let e = ap (λ (l : List Held). length (on_day day l)) (stored-one x xs parts.0) in
    let n = ap length (on-here day x (stored xs) parts.1) in
    omega (arith, e, n)

one_in : (day : ℕ) (held : List Held) (i : ℕ) → i < length held → is_of_day day (held_at held i) ≡ true → 1 ≤ many_on day held
one_in day [] i below is = absurd (omega (arith, below))
one_in day (x ∷ xs) zero below is = omega (arith, many_here day x xs is)
one_in day (x ∷ xs) (suc i) below is = omega (arith, one_in day xs i (omega (arith, below)) is, many_more day x xs)

two_in : (day : ℕ) (held : List Held) (i j : ℕ) → i < j → j < length held → is_of_day day (held_at held i) ≡ true → is_of_day day (held_at held j) ≡ true → 2 ≤ many_on day held
two_in day [] i j less below here there = absurd (omega (arith, below))
two_in day (x ∷ xs) i zero less below here there = absurd (omega (arith, less))
two_in day (x ∷ xs) zero (suc j) less below here there = omega (arith, many_here day x xs here, one_in day xs j (omega (arith, below)) there)
two_in day (x ∷ xs) (suc i) (suc j) less below here there = omega (arith, two_in day xs i j (omega (arith, less)) (omega (arith, below)) here there, many_more day x xs)

-- what holds of the stored ones holds of one that is there
stored_at : (P : Held → Type 0) (held : List Held) (i : ℕ) → i < length held → 0 < (held_at held i).begin → All P (stored held) → P (held_at held i)
stored_at P [] i below some all = absurd (omega (arith, below))
stored_at P (x ∷ xs) zero below some all = All-head P x (stored xs) (subst (λ (l : List Held). All P l) (stored-one x xs some) all)
stored_at P (x ∷ xs) (suc i) below some all =
    by_test (x.begin == 0)
    (λ none. stored_at P xs i (omega (arith, below)) some (subst (λ (l : List Held). All P l) (stored-none x xs (eqb-true x.begin 0 none)) all))
    (λ real.
    let ne = eqb-false x.begin 0 real in
    stored_at P xs i (omega (arith, below)) some (All-tail P x (stored xs) (subst (λ (l : List Held). All P l) (stored-one x xs (omega (arith, ne))) all)))

-- where a place is empty, fewer are stored than there are places
stored_fewer : (held : List Held) (i : ℕ) → i < length held → (held_at held i).begin ≡ 0 → length (stored held) < length held
stored_fewer [] i below none = absurd (omega (arith, below))
stored_fewer (x ∷ xs) zero below none = let e = ap length (stored-none x xs none) in omega (arith, e, stored-most xs)
stored_fewer (x ∷ xs) (suc i) below none =
    let rest = stored_fewer xs i (omega (arith, below)) none in
    by_test (x.begin == 0)
    (λ empty. let e = ap length (stored-none x xs (eqb-true x.begin 0 empty)) in omega (arith, e, rest))
    (λ real. let ne = eqb-false x.begin 0 real in let e = ap length (stored-one x xs (omega (arith, ne))) in omega (arith, e, rest))

-- ---- the held events of counted ones

held_in_place : (table : List Counted) (i : ℕ) → held_at (held_of table) i ≡ (counted_in table i).held
held_in_place table i = get_or-map (λ (c : Counted). c.held) table i (record { held = none_held; similar = 0 })

length_held : (table : List Counted) → length (held_of table) ≡ length table
length_held table = length-map table (λ (c : Counted). c.held)

held_counted : (table : List Counted) (event : Held) (place day : Option ℕ) → held_of (counted_at table event place day) ≡ placed (held_of table) event place
held_counted table event (Some p) day = map-set (λ (c : Counted). c.held) table p (record { held = event; similar = similar_after (similar_in table day) })
held_counted table event None (Some q) = map-set_same (λ (c : Counted). c.held) table q (record { held = (counted_in table q).held; similar = similar_after (similar_in table (Some q)) }) (record { held = none_held; similar = 0 }) refl
held_counted table event None None = refl

pub held_noted : (kind : ℕ) (table : List Counted) (event : Held) → held_of (counted kind table event) ≡ noted kind (held_of table) event
held_noted kind table event = held_counted table event (place_of kind (held_of table) event) (day_place kind (held_of table) event)

length_counted : (table : List Counted) (event : Held) (place day : Option ℕ) → length (counted_at table event place day) ≡ length table
length_counted table event (Some p) day = length-set table p (record { held = event; similar = similar_after (similar_in table day) })
length_counted table event None (Some q) = length-set table q (record { held = (counted_in table q).held; similar = similar_after (similar_in table (Some q)) })
length_counted table event None None = refl

-- ---- one event more

-- how many have come of a day
abbrev came : List Counted → List Held → ℕ → ℕ
came start run day = similar_on day start + length (on_day day run)

came_here : (start : List Counted) (run : List Held) (event : Held) → came start (run ++ event ∷ []) (event.begin / 86400) ≡ came start run (event.begin / 86400) + 1
came_here start run event =
    let day : ℕ = event.begin / 86400 in
    let e = ap length (on-append day run (event ∷ [])) in
    let n = length-append (on_day day run) (on_day day (event ∷ [])) in
    let one = ap length (on-here day event [] refl) in
    omega (arith, e, n, one)

came_else : (start : List Counted) (run : List Held) (event : Held) (day : ℕ) → (event.begin / 86400 ≡ day → ⊥) → came start (run ++ event ∷ []) day ≡ came start run day
came_else start run event day other =
    let e = ap length (on-append day run (event ∷ [])) in
    let n = length-append (on_day day run) (on_day day (event ∷ [])) in
    let none = ap length (on-off day event [] other) in
    omega (arith, e, n, none)

-- nothing of a day is held where nothing of it is stored
none_similar : (day : ℕ) (start : List Counted) → on_day day (stored (held_of start)) ≡ [] → similar_on day start ≡ 0
none_similar day [] none = refl
none_similar day (c ∷ start) none =
    by_test (is_of_day day c.held)
    (λ is. absurd (let n = many_here day c.held (held_of start) is in let z = ap length none in omega (arith, n, z)))
    (λ other. rw other (none_similar day start (empty (on_day day (stored (held_of start))) (let m = many_more day c.held (held_of start) in let z = ap length none in omega (arith, m, z)))))
  where
    empty : (xs : List Held) → length xs ≤ 0 → xs ≡ []
    empty [] n = refl
    empty (y ∷ ys) n = absurd (omega (arith, n))

no_front : (xs ys : List Held) → xs ++ ys ≡ [] → (xs ≡ []) × (ys ≡ [])
no_front [] ys none = (refl, none)
no_front (x ∷ xs) ys none = absurd (cc)

module _ (p : Purpose) (start table : List Counted) (run : List Held) (event : Held) (some : 0 < event.begin)
    (keeps : KeepsDays p (length (held_of table)) (stored (held_of start) ++ run) (stored (held_of table))) (counts : CountsDays start run table) where
  abbrev held : List Held
  held = held_of table

  abbrev day : ℕ
  day = event.begin / 86400

  abbrev of_day : Held → Bool
  of_day h = is_of_day day h

  -- its day is kept, or earlier than all that are
  abbrev DayKept : Held → Type 0
  DayKept a = (list_any (λ h. h.begin / 86400 == a.begin / 86400) (stored held) ≡ true) ⊎ ((length (stored held) ≡ length held) × All (λ h. a.begin / 86400 < h.begin / 86400) (stored held))

  abbrev Later : List Counted → Type 0
  Later next = CountsDays start (run ++ event ∷ []) next

  -- an entry of another day counts what it did
  other_counts : (i : ℕ) → i < length table → 0 < (counted_in table i).held.begin → of_day (counted_in table i).held ≡ false
      → (counted_in table i).similar ≡ min 255 (came start (run ++ event ∷ []) ((counted_in table i).held.begin / 86400))
  other_counts i below real other =
      let d : ℕ = (counted_in table i).held.begin / 86400 in
      let apart : day ≡ d → ⊥ = λ same. absurd (let is = both (counted_in table i).held real (sym same) in let wrong : true ≡ false = sym is ∙ other in cc) in
      counts i below real ∙ ap (min 255) (sym (came_else start run event d apart))
    where
      both : (h : Held) → 0 < h.begin → h.begin / 86400 ≡ day → of_day h ≡ true
      both h positive same = rw (ne_eqb h.begin 0 (λ z. omega (arith, positive, z)), eq-eqb (h.begin / 86400) day same) refl

  -- a place in which an event of the day stands with one more
  set_counts : (j : ℕ) (c : Counted) → j < length table → c.held.begin / 86400 ≡ day → c.similar ≡ min 255 (came start run day + 1)
      → ((i : ℕ) → i < length table → i ≢ j → of_day (counted_in table i).held ≡ false) → Later (slice_set table j c)
  set_counts j c below same one others i inside real = by (cases_eq i j)
    where
      by : (i ≡ j) ⊎ (i ≢ j) → (counted_in (slice_set table j c) i).similar ≡ min 255 (came start (run ++ event ∷ []) ((counted_in (slice_set table j c) i).held.begin / 86400))
      by (inl here) =
          let at : counted_in (slice_set table j c) i ≡ c = ap (counted_in (slice_set table j c)) here ∙ get_or-set_same table j c (record { held = none_held; similar = 0 }) below in
          ap (λ (x : Counted). x.similar) at ∙ one ∙ ap (min 255) (sym (came_here start run event)) ∙ ap (λ (d : ℕ). min 255 (came start (run ++ event ∷ []) d)) (sym (ap (λ (x : Counted). x.held.begin / 86400) at ∙ same))
      by (inr other) =
          let at : counted_in (slice_set table j c) i ≡ counted_in table i = get_or-set_other table j i c (record { held = none_held; similar = 0 }) other in
          let low : i < length table = subst (λ (n : ℕ). i < n) (length-set table j c) inside in
          let there : 0 < (counted_in table i).held.begin = subst (λ (x : Counted). 0 < x.held.begin) at real in
          subst (λ (x : Counted). x.similar ≡ min 255 (came start (run ++ event ∷ []) (x.held.begin / 86400))) (sym at) (other_counts i low there (others i low other))

  -- the event of its day is held: it is the only one
  module _ (j : ℕ) (found : position of_day held ≡ Some j) where
    at_j : (j < length held) × (of_day (held_at held j) ≡ true) × ((k : ℕ) → k < j → of_day (held_at held k) ≡ false)
    at_j = position-Some of_day held j none_held found

    below_j : j < length table
    below_j = subst (λ (n : ℕ). j < n) (length_held table) at_j.0

    is_j : of_day (counted_in table j).held ≡ true
    is_j = ap of_day (sym (held_in_place table j)) ∙ at_j.1

    alone : (i : ℕ) → i < length table → i ≢ j → of_day (counted_in table i).held ≡ false
    alone i below other =
        by_test (of_day (counted_in table i).held)
        (λ is. absurd (two (ap of_day (held_in_place table i) ∙ is)))
        (λ failed. failed)
      where
        two : of_day (held_at held i) ≡ true → ⊥
        two is =
            by_test (nat_lt i j)
            (λ less. let n = two_in day held i j (ltb-true i j less) at_j.0 is at_j.1 in omega (arith, n, keeps.one day))
            (λ more. let le = ltb-false i j more in let n = two_in day held j i (omega (arith, le, other)) (subst (λ (k : ℕ). i < k) (sym (length_held table)) below) at_j.1 is in omega (arith, n, keeps.one day))

    one_more : similar_after (similar_in table (Some j)) ≡ min 255 (came start run day + 1)
    one_more =
        let parts = day_parts day (counted_in table j).held is_j in
        let was : (counted_in table j).similar ≡ min 255 (came start run day) = counts j below_j parts.0 ∙ ap (λ (d : ℕ). min 255 (came start run d)) parts.1 in
        omega (arith, was)

    taken_counts : Later (slice_set table j (record { held = event; similar = similar_after (similar_in table (Some j)) }))
    taken_counts = set_counts j (record { held = event; similar = similar_after (similar_in table (Some j)) }) below_j refl one_more alone

    kept_counts : Later (slice_set table j (record { held = (counted_in table j).held; similar = similar_after (similar_in table (Some j)) }))
    kept_counts = set_counts j (record { held = (counted_in table j).held; similar = similar_after (similar_in table (Some j)) }) below_j (day_parts day (counted_in table j).held is_j).1 one_more alone

  -- none of its day is held
  module _ (none : position of_day held ≡ None) where
    each_none : All (λ h. of_day h ≡ false) held
    each_none = position-none of_day held none

    none_of : (i : ℕ) → i < length table → of_day (counted_in table i).held ≡ false
    none_of i below = ap of_day (sym (held_in_place table i)) ∙ all_at held i (subst (λ (k : ℕ). i < k) (sym (length_held table)) below) each_none
      where
        all_at : (xs : List Held) (i : ℕ) → i < length xs → All (λ h. of_day h ≡ false) xs → of_day (held_at xs i) ≡ false
        all_at [] i below all = absurd (omega (arith, below))
        all_at (x ∷ xs) zero below all = All-head (λ (h : Held). of_day h ≡ false) x xs all
        all_at (x ∷ xs) (suc i) below all = all_at xs i (omega (arith, below)) (All-tail (λ (h : Held). of_day h ≡ false) x xs all)

    unchanged_counts : Later table
    unchanged_counts i below real = other_counts i below real (none_of i below)

    -- it takes a place of an earlier event or an empty one: none of its day came before
    module _ (r : ℕ) (inside : r < length table) (earlier : (held_at held r).begin < event.begin) where
      inside_held : r < length held
      inside_held = subst (λ (k : ℕ). r < k) (sym (length_held table)) inside

      stored_other : All (Other day) (stored held)
      stored_other = go held each_none
        where
          go : (xs : List Held) → All (λ h. of_day h ≡ false) xs → All (Other day) (stored xs)
          go [] all = All-nil (Other day)
          go (x ∷ xs) all =
              let rest = go xs (All-tail (λ (h : Held). of_day h ≡ false) x xs all) in
              let here : of_day x ≡ false = All-head (λ (h : Held). of_day h ≡ false) x xs all in
              by_test (x.begin == 0)
              (λ empty. rw empty rest)
              (λ real. rw real (All-cons (Other day) x (stored xs) (eqb-false (x.begin / 86400) day (let at : (true && (x.begin / 86400 == day)) ≡ false = rw real at here in at)) rest))

      came_none : on_day day (stored (held_of start) ++ run) ≡ []
      came_none = off (stored (held_of start) ++ run) keeps.days
        where
          not_its : (a : Held) → DayKept a → a.begin / 86400 ≡ day → ⊥
          not_its a (inl is) same = any-none day (stored held) stored_other (subst (λ (n : ℕ). list_any (λ h. h.begin / 86400 == n) (stored held) ≡ true) same is)
          not_its a (inr late) same =
              by_test ((held_at held r).begin == 0)
              (λ empty. omega (arith, late.0, stored_fewer held r inside_held (eqb-true (held_at held r).begin 0 empty)))
              (λ real.
              let ne = eqb-false (held_at held r).begin 0 real in
              let after : a.begin / 86400 < (held_at held r).begin / 86400 = stored_at (λ h. a.begin / 86400 < h.begin / 86400) held r inside_held (omega (arith, ne)) late.1 in
              omega (arith, after, same, earlier))

          off : (xs : List Held) → All DayKept xs → on_day day xs ≡ []
          off [] all = refl
          off (x ∷ xs) all = on-off day x xs (not_its x (All-head DayKept x xs all)) ∙ off xs (All-tail DayKept x xs all)

      came_zero : came start run day ≡ 0
      came_zero =
          let parts = no_front (on_day day (stored (held_of start))) (on_day day run) (sym (on-append day (stored (held_of start)) run) ∙ came_none) in
          let a = none_similar day start parts.0 in
          let b = ap length parts.1 in
          omega (arith, a, b)

      new_counts : Later (slice_set table r (record { held = event; similar = similar_after None }))
      new_counts = set_counts r (record { held = event; similar = 1 }) inside refl (omega (arith, came_zero)) (λ i below other. none_of i below)

  -- whichever it is
  by_place : (o : Option ℕ) → position of_day held ≡ o → Later (counted_at table event (place_beside p held event o) o)
  by_place (Some j) found = either (nat_lt (measure p (held_at held j)) (measure p event))
    where
      either : (b : Bool) → Later (counted_at table event (cond b (Some j) None) (Some j))
      either true = taken_counts j found
      either false = kept_counts j found
  by_place None none = recent (earliest (λ h. h.begin) held) refl
    where
      recent : (o : Option ℕ) → earliest (λ h. h.begin) held ≡ o → Later (counted_at table event (where_later held event o) None)
      recent None is = unchanged_counts none
      recent (Some r) is = place (nat_lt (held_at held r).begin event.begin) refl
        where
          inside : r < length table
          inside = subst (λ (n : ℕ). r < n) (length_held table) (position-Some (λ (h : Held). Rattle.std.specs.List.list_all (λ y. Rattle.std.specs.Prelude.nat_le h.begin y.begin) held) held r none_held is).0

          place : (b : Bool) → nat_lt (held_at held r).begin event.begin ≡ b → Later (counted_at table event (cond b (Some r) None) None)
          place true less = new_counts none r inside (ltb-true (held_at held r).begin event.begin less)
          place false more = unchanged_counts none

-- one event more, of a type that keeps one a day
pub counts_more : (kind : ℕ) (start table : List Counted) (run : List Held) (event : Held) → is_by_day (purpose_of kind) ≡ true → 0 < event.begin
    → KeepsDays (purpose_of kind) (length (held_of table)) (stored (held_of start) ++ run) (stored (held_of table)) → CountsDays start run table
    → CountsDays start (run ++ event ∷ []) (counted kind table event)
counts_more kind start table run event by_day some keeps counts =
    let p : Purpose = purpose_of kind in
    let held : List Held = held_of table in
    let same : day_place kind held event ≡ position (is_of_day (event.begin / 86400)) held = rw by_day refl in
    subst (λ (o : Option ℕ). CountsDays start (run ++ event ∷ []) (counted_at table event (place_beside p held event o) o)) (sym same)
    (by_place p start table run event some keeps counts (position (is_of_day (event.begin / 86400)) held) refl)

keeps_more : (kind : ℕ) (start table : List Counted) (run : List Held) (event : Held) → is_by_day (purpose_of kind) ≡ true → 0 < event.begin
    → KeepsDays (purpose_of kind) (length (held_of table)) (stored (held_of start) ++ run) (stored (held_of table))
    → KeepsDays (purpose_of kind) (length (held_of (counted kind table event))) (stored (held_of start) ++ (run ++ event ∷ [])) (stored (held_of (counted kind table event)))
keeps_more kind start table run event by_day some keeps =
    let now : List Counted = counted kind table event in
    let n : length (held_of now) ≡ length (held_of table) =
    length_held now ∙ length_counted table event (place_of kind (held_of table) event) (day_place kind (held_of table) event) ∙ sym (length_held table) in
    let after = daily (purpose_of kind) (held_of table) (stored (held_of start) ++ run) event by_day some keeps in
    subst (λ (all : List Held). KeepsDays (purpose_of kind) (length (held_of now)) all (stored (held_of now))) (append_assoc (stored (held_of start)) run (event ∷ []))
    (subst (λ (h : List Held). KeepsDays (purpose_of kind) (length (held_of now)) ((stored (held_of start) ++ run) ++ event ∷ []) (stored h)) (sym (held_noted kind table event))
    (subst (λ (k : ℕ). KeepsDays (purpose_of kind) k ((stored (held_of start) ++ run) ++ event ∷ []) (stored (noted kind (held_of table) event))) (sym n) after))

-- and of a whole run
counts_on : (kind : ℕ) (start table : List Counted) (run rest : List Held) → is_by_day (purpose_of kind) ≡ true → All (λ e. 0 < e.begin) rest
    → KeepsDays (purpose_of kind) (length (held_of table)) (stored (held_of start) ++ run) (stored (held_of table)) → CountsDays start run table
    → CountsDays start (run ++ rest) (all_counted kind table rest)
counts_on kind start table run [] by_day real keeps counts = subst (λ (l : List Held). CountsDays start l table) (sym (append-nil run)) counts
counts_on kind start table run (e ∷ rest) by_day real keeps counts =
    let some = All-head (λ (e : Held). 0 < e.begin) e rest real in
    subst (λ (l : List Held). CountsDays start l (all_counted kind (counted kind table e) rest)) (append_assoc run (e ∷ []) rest)
    (counts_on kind start (counted kind table e) (run ++ e ∷ []) rest by_day (All-tail (λ (e : Held). 0 < e.begin) e rest real)
    (keeps_more kind start table run e by_day some keeps) (counts_more kind start table run e by_day some keeps counts))

-- at the start each counts what it does
similar_own : (day : ℕ) (start : List Counted) (i : ℕ) → i < length start → is_of_day day (counted_in start i).held ≡ true → many_on day (held_of start) ≤ 1 → similar_on day start ≡ (counted_in start i).similar
similar_own day [] i below is one = absurd (omega (arith, below))
similar_own day (c ∷ start) zero below is one = rw is refl
similar_own day (c ∷ start) (suc i) below is one =
    by_test (is_of_day day c.held)
    (λ first.
    let there : is_of_day day (held_at (held_of start) i) ≡ true = ap (is_of_day day) (held_in_place start i) ∙ is in
    let again = one_in day (held_of start) i (subst (λ (k : ℕ). i < k) (sym (length_held start)) (omega (arith, below))) there in
    absurd (omega (arith, one, many_here day c.held (held_of start) first, again)))
    (λ other. rw other (similar_own day start i (omega (arith, below)) is (omega (arith, one, many_more day c.held (held_of start)))))

few_at : (start : List Counted) (i : ℕ) → i < length start → All (λ c. c.similar ≤ 255) start → (counted_in start i).similar ≤ 255
few_at [] i below few = absurd (omega (arith, below))
few_at (c ∷ start) zero below few = All-head (λ (c : Counted). c.similar ≤ 255) c start few
few_at (c ∷ start) (suc i) below few = few_at start i (omega (arith, below)) (All-tail (λ (c : Counted). c.similar ≤ 255) c start few)

counts_none : (start : List Counted) → ((day : ℕ) → many_on day (held_of start) ≤ 1) → All (λ c. c.similar ≤ 255) start → CountsDays start [] start
counts_none start one few i below real =
    let day : ℕ = (counted_in start i).held.begin / 86400 in
    let is : is_of_day day (counted_in start i).held ≡ true = rw (ne_eqb (counted_in start i).held.begin 0 (λ z. omega (arith, real, z)), eq-eqb day day refl) refl in
    omega (arith, similar_own day start i below is (one day), few_at start i below few)

pub similar_counted : (kind : ℕ) (start : List Counted) (run : List Held) → is_by_day (purpose_of kind) ≡ true → All (λ e. 0 < e.begin) run
    → KeepsDays (purpose_of kind) (length start) (stored (held_of start)) (stored (held_of start)) → All (λ c. c.similar ≤ 255) start
    → CountsDays start run (all_counted kind start run)
similar_counted kind start run by_day real keeps few =
    let n : length start ≡ length (held_of start) = sym (length_held start) in
    let first : KeepsDays (purpose_of kind) (length (held_of start)) (stored (held_of start) ++ []) (stored (held_of start)) =
    subst (λ (all : List Held). KeepsDays (purpose_of kind) (length (held_of start)) all (stored (held_of start))) (sym (append-nil (stored (held_of start))))
    (subst (λ (k : ℕ). KeepsDays (purpose_of kind) k (stored (held_of start)) (stored (held_of start))) n keeps) in
    counts_on kind start start [] run by_day real first (counts_none start keeps.one few)

-- the held events are those that were noted
pub held_all : (kind : ℕ) (table : List Counted) (events : List Held) → held_of (all_counted kind table events) ≡ all_noted kind (held_of table) events
held_all kind table [] = refl
held_all kind table (e ∷ events) = held_all kind (counted kind table e) events ∙ ap (λ (h : List Held). all_noted kind h events) (held_noted kind table e)

-- ---- what is kept of a whole run

length_noted : (held : List Held) (event : Held) (place : Option ℕ) → length (placed held event place) ≡ length held
length_noted held event None = refl
length_noted held event (Some p) = length-set held p event

pub recent_all : (kind : ℕ) (held all events : List Held) → is_by_day (purpose_of kind) ≡ false → All (λ e. 0 < e.begin) events
    → KeepsRecent (length held) all (stored held) → KeepsRecent (length held) (all ++ events) (stored (all_noted kind held events))
recent_all kind held all [] other real keeps = subst (λ (l : List Held). KeepsRecent (length held) l (stored held)) (sym (append-nil all)) keeps
recent_all kind held all (e ∷ events) other real keeps =
    let next : List Held = noted kind held e in
    let n : length next ≡ length held = length_noted held e (place_of kind held e) in
    let step = recently (purpose_of kind) held all e other (All-head (λ (e : Held). 0 < e.begin) e events real) keeps in
    let from : KeepsRecent (length next) (all ++ e ∷ []) (stored next) = subst (λ (k : ℕ). KeepsRecent k (all ++ e ∷ []) (stored next)) (sym n) step in
    let rest = recent_all kind next (all ++ e ∷ []) events other (All-tail (λ (e : Held). 0 < e.begin) e events real) from in
    subst (λ (l : List Held). KeepsRecent (length held) l (stored (all_noted kind next events))) (append_assoc all (e ∷ []) events)
    (subst (λ (k : ℕ). KeepsRecent k ((all ++ e ∷ []) ++ events) (stored (all_noted kind next events))) n rest)

pub days_all : (kind : ℕ) (held all events : List Held) → is_by_day (purpose_of kind) ≡ true → All (λ e. 0 < e.begin) events
    → KeepsDays (purpose_of kind) (length held) all (stored held) → KeepsDays (purpose_of kind) (length held) (all ++ events) (stored (all_noted kind held events))
days_all kind held all [] by_day real keeps = subst (λ (l : List Held). KeepsDays (purpose_of kind) (length held) l (stored held)) (sym (append-nil all)) keeps
days_all kind held all (e ∷ events) by_day real keeps =
    let next : List Held = noted kind held e in
    let n : length next ≡ length held = length_noted held e (place_of kind held e) in
    let step = daily (purpose_of kind) held all e by_day (All-head (λ (e : Held). 0 < e.begin) e events real) keeps in
    let from : KeepsDays (purpose_of kind) (length next) (all ++ e ∷ []) (stored next) = subst (λ (k : ℕ). KeepsDays (purpose_of kind) k (all ++ e ∷ []) (stored next)) (sym n) step in
    let rest = days_all kind next (all ++ e ∷ []) events by_day (All-tail (λ (e : Held). 0 < e.begin) e events real) from in
    subst (λ (l : List Held). KeepsDays (purpose_of kind) (length held) l (stored (all_noted kind next events))) (append_assoc all (e ∷ []) events)
    (subst (λ (k : ℕ). KeepsDays (purpose_of kind) k ((all ++ e ∷ []) ++ events) (stored (all_noted kind next events))) n rest)

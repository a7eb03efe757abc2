-- Rings of which entries are added, one after another, or get a few bytes; and notes that these stand for.
use Rattle.std.proofs.Common.{◌≡◌, ◌⊎◌, inl, inr, ⊎_elim, ℕ, suc, ◌+◌, ◌-◌, ◌<◌, ◌≤◌, true, false, cond, List, [], ◌∷◌, ◌++◌, length, map, refl, ap, sym, subst, ◌∙◌, arith, append_assoc, append-nil, length-append}
use Rattle.std.specs.Prelude.{◌==◌, if◌then◌else◌}
use Rattle.std.specs.List.{AllByRecursion}
use Rattle.std.proofs.lemmas.List.{length-drop, map-append, length-map}
use Rattle.card_layout.specs.Images.{SameOutside, bytes_at}
use Rattle.gated_ring.specs.Ring.{Shape, IsShape, PointsInside, size_of, pointer, is_there, indices, ring_list, entry_at, taken, staying, with_head, IsDense, newest_of}
use Rattle.gated_ring.specs.Change.{IsShortened, IsExtended, IsAdding, IsAdded}
use Rattle.gated_ring.proofs.Elsewhere.{ring_outside, ring_elsewhere}
use Rattle.gated_ring.proofs.Listing.{indices_cases}
use Rattle.run_rings.specs.Carried.{RingKeeps}

-- LISTS that are equal, part by part
pub same-parts : (a b : List (List ℕ)) (e f : List ℕ) (c d : List (List ℕ)) → a ++ e ∷ c ≡ b ++ f ∷ d → length c ≡ length d → (a ≡ b) × (e ≡ f) × (c ≡ d)
same-parts [] [] e f c d is long = let one : e ≡ f = cc in let rest : c ≡ d = cc in (refl, one, rest)
same-parts [] (y ∷ b) e f c d is long =
    absurd (let rest : c ≡ b ++ f ∷ d = cc in let many : length c ≡ length b + length (f ∷ d) = ap (λ (l : List (List ℕ)). length l) rest ∙ length-append b (f ∷ d) in omega (arith, many, long))
same-parts (x ∷ a) [] e f c d is long =
    absurd (let rest : a ++ e ∷ c ≡ d = cc in let many : length a + length (e ∷ c) ≡ length d = sym (length-append a (e ∷ c)) ∙ ap (λ (l : List (List ℕ)). length l) rest in omega (arith, many, long))
same-parts (x ∷ a) (y ∷ b) e f c d is long =
    let one : x ≡ y = cc in
    let rest : a ++ e ∷ c ≡ b ++ f ∷ d = cc in
    let parts_are = same-parts a b e f c d rest long in
    (λ i. one i ∷ parts_are.0 i, parts_are.1, parts_are.2)

-- what is in front of the last of a list: an entry that stands before them is among it
front-of : (a old gone : List (List ℕ)) (e : List ℕ) (newer : List (List ℕ)) → a ++ e ∷ newer ≡ gone ++ old → length old ≤ length newer → (rest : List (List ℕ)) × (newer ≡ rest ++ old) × (gone ≡ a ++ e ∷ rest)
front-of [] old [] e newer is few = absurd (let many : length old ≡ suc (length newer) = ap (λ (l : List (List ℕ)). length l) (sym is) in omega (arith, many, few))
front-of [] old (g ∷ gone) e newer is few = let one : e ≡ g = cc in let rest : newer ≡ gone ++ old = cc in (gone, rest, λ i. sym one i ∷ gone)
front-of (x ∷ a) old [] e newer is few =
    absurd (let many : length old ≡ suc (length (a ++ e ∷ newer)) = ap (λ (l : List (List ℕ)). length l) (sym is) in
    let more_are : length (a ++ e ∷ newer) ≡ length a + length (e ∷ newer) = length-append a (e ∷ newer) in omega (arith, many, more_are, few))
front-of (x ∷ a) old (g ∷ gone) e newer is few =
    let one : x ≡ g = cc in
    let rest : a ++ e ∷ newer ≡ gone ++ old = cc in
    let cut = front-of a old gone e newer rest few in
    (cut.0, cut.1, λ i. sym one i ∷ cut.2 i)

not-both : (gone front : List (List ℕ)) (e : List ℕ) (rest : List (List ℕ)) → gone ≡ [] → gone ≡ front ++ e ∷ rest → ⊥
not-both gone [] e rest none some = let wrong : [] ≡ e ∷ rest = sym none ∙ some in cc
not-both gone (y ∷ front) e rest none some = let wrong : [] ≡ y ∷ (front ++ e ∷ rest) = sym none ∙ some in cc

all-front : (P : ℕ → Type 0) (xs ys : List ℕ) → AllByRecursion P (xs ++ ys) → AllByRecursion P xs
all-front P [] ys all = tt
all-front P (x ∷ xs) ys all = (all.0, all-front P xs ys all.1)

all-back : (P : ℕ → Type 0) (xs ys : List ℕ) → AllByRecursion P (xs ++ ys) → AllByRecursion P ys
all-back P [] ys all = all
all-back P (x ∷ xs) ys all = all-back P xs ys all.1

-- WHAT IS SHOWN BEHIND A STEP: some are taken away at the front, and an entry may come
module _ (begins : List (List ℕ)) (more gone old : List (List ℕ)) (shown : begins ++ more ≡ gone ++ old) (away kept : List (List ℕ)) (are : old ≡ away ++ kept) where
  shown-less : begins ++ more ≡ (gone ++ away) ++ kept
  shown-less = shown ∙ ap (λ (l : List (List ℕ)). gone ++ l) are ∙ sym (append_assoc gone away kept)

  shown-more : (e : List ℕ) → begins ++ (more ++ e ∷ []) ≡ (gone ++ away) ++ (kept ++ e ∷ [])
  shown-more e = sym (append_assoc begins more (e ∷ [])) ∙ ap (λ (l : List (List ℕ)). l ++ e ∷ []) shown-less ∙ append_assoc (gone ++ away) kept (e ∷ [])

-- how many of a list are its newest
newest-count : (n : ℕ) (l : List (List ℕ)) → length (newest_of n l) ≡ length l - (length l - n)
newest-count n l = length-drop (length l - n) l

-- where those that stay are the newest, none is gone, or the ring is full, or lacks one
module _ (n : ℕ) (gone old away kept : List (List ℕ)) (are : old ≡ away ++ kept) (full : (gone ≡ []) ⊎ (n ≤ length old + 1)) where
  long : length old ≡ length away + length kept
  long = ap (λ (l : List (List ℕ)). length l) are ∙ length-append away kept

  full-less : kept ≡ newest_of (n - 1) old → (gone ++ away ≡ []) ⊎ (n ≤ length kept + 1)
  full-less newest = by away long full
    where
      is : length kept ≡ length old - (length old - (n - 1))
      is = ap (λ (l : List (List ℕ)). length l) newest ∙ newest-count (n - 1) old

      by : (a : List (List ℕ)) → length old ≡ length a + length kept → (gone ≡ []) ⊎ (n ≤ length old + 1) → (gone ++ a ≡ []) ⊎ (n ≤ length kept + 1)
      by [] all (inl none) = inl (append-nil gone ∙ none)
      by [] all (inr lacks) = inr (omega (arith, lacks, is))
      by (a ∷ others) all (inl none) = inr (omega (arith, all, is))
      by (a ∷ others) all (inr lacks) = inr (omega (arith, lacks, is))

  full-more : (e : List ℕ) → kept ++ e ∷ [] ≡ newest_of n (old ++ e ∷ []) → (gone ++ away ≡ []) ⊎ (n ≤ length (kept ++ e ∷ []) + 1)
  full-more e newest = by away long full
    where
      one : length (old ++ e ∷ []) ≡ length old + 1
      one = length-append old (e ∷ [])

      now : length (kept ++ e ∷ []) ≡ length kept + 1
      now = length-append kept (e ∷ [])

      is : length (kept ++ e ∷ []) ≡ length (old ++ e ∷ []) - (length (old ++ e ∷ []) - n)
      is = ap (λ (l : List (List ℕ)). length l) newest ∙ newest-count n (old ++ e ∷ [])

      by : (a : List (List ℕ)) → length old ≡ length a + length kept → (gone ≡ []) ⊎ (n ≤ length old + 1) → (gone ++ a ≡ []) ⊎ (n ≤ length (kept ++ e ∷ []) + 1)
      by [] all (inl none) = inl (append-nil gone ∙ none)
      by [] all (inr lacks) = inr (omega (arith, lacks, one, now, is))
      by (a ∷ others) all (inl none) = inr (omega (arith, all, one, now, is))
      by (a ∷ others) all (inr lacks) = inr (omega (arith, lacks, one, now, is))

-- those that stay behind the one whose place is taken
leaving : (r : Shape) (x : List ℕ) → PointsInside r x → (away : List (List ℕ)) × (ring_list r x ≡ away ++ map (entry_at r x) (staying r x))
leaving r x points = by (indices_cases r x points)
  where
    by : ((is_there r x (taken r x) ≡ true) × (indices r x ≡ taken r x ∷ staying r x)) ⊎ ((is_there r x (taken r x) ≡ false) × (indices r x ≡ staying r x)) → (away : List (List ℕ)) × (ring_list r x ≡ away ++ map (entry_at r x) (staying r x))
    by (inl there) = (entry_at r x (taken r x) ∷ [], ap (λ (js : List ℕ). map (entry_at r x) js) there.1)
    by (inr none) = ([], ap (λ (js : List ℕ). map (entry_at r x) js) none.1)

-- A RING
pub carries-none : (r : Shape) (start : List ℕ) → PointsInside r start → RingKeeps r start start []
carries-none r start points = record { points = points; dense = λ d. d; gone = []; shown = append-nil (ring_list r start); full = λ d. inl refl }

module _ (r : Shape) (start x : List ℕ) (more : List (List ℕ)) (h : RingKeeps r start x more) where
  -- behind a step that takes away some of the front, and one that brings an entry, too
  took : (c : List ℕ) → PointsInside r c → (IsDense r x → IsDense r c) → IsShortened r x c → RingKeeps r start c more
  took c points dense shortened =
      let s = leaving r x h.points in
      record {
        points = points;
        dense = λ d. dense (h.dense d);
        gone = h.gone ++ s.0;
        shown = shown-less (ring_list r start) more h.gone (ring_list r x) h.shown s.0 (map (entry_at r x) (staying r x)) s.1 ∙ ap (λ (l : List (List ℕ)). (h.gone ++ s.0) ++ l) (sym shortened.list_is);
        full = λ d. subst (λ (l : List (List ℕ)). (h.gone ++ s.0 ≡ []) ⊎ (r.count ≤ length l + 1)) (sym shortened.list_is)
            (full-less r.count h.gone (ring_list r x) s.0 (map (entry_at r x) (staying r x)) s.1 (h.full d) (sym shortened.list_is ∙ shortened.newest (h.dense d)));
      }

  brought : (head c : List ℕ) → PointsInside r c → (IsDense r x → IsDense r c) → IsExtended r head x c → RingKeeps r start c (more ++ with_head r x (taken r x) head ∷ [])
  brought head c points dense extended =
      let s = leaving r x h.points in
      let e : List ℕ = with_head r x (taken r x) head in
      record {
        points = points;
        dense = λ d. dense (h.dense d);
        gone = h.gone ++ s.0;
        shown = shown-more (ring_list r start) more h.gone (ring_list r x) h.shown s.0 (map (entry_at r x) (staying r x)) s.1 e ∙ ap (λ (l : List (List ℕ)). (h.gone ++ s.0) ++ l) (sym extended.list_is);
        full = λ d. subst (λ (l : List (List ℕ)). (h.gone ++ s.0 ≡ []) ⊎ (r.count ≤ length l + 1)) (sym extended.list_is)
            (full-more r.count h.gone (ring_list r x) s.0 (map (entry_at r x) (staying r x)) s.1 (h.full d) e (sym extended.list_is ∙ extended.newest (h.dense d)));
      }

  -- an entry is added
  pub carries-more : (head y : List ℕ) → IsAdded r head x y → RingKeeps r start y (more ++ with_head r x (taken r x) head ∷ [])
  carries-more head y added = brought head y (added.points h.points) (added.dense h.points) (added.list h.points)

  -- a stop came at a moment of that
  pub carries-maybe : (head c : List ℕ) → IsAdding r head x c → RingKeeps r start c more ⊎ RingKeeps r start c (more ++ with_head r x (taken r x) head ∷ [])
  carries-maybe head c moment = by (moment.step h.points).list
    where
      by : (c ≡ x) ⊎ (IsShortened r x c ⊎ IsExtended r head x c) → RingKeeps r start c more ⊎ RingKeeps r start c (more ++ with_head r x (taken r x) head ∷ [])
      by (inl is) = inl (subst (λ (z : List ℕ). RingKeeps r start z more) (sym is) h)
      by (inr (inl shortened)) = inl (took c (moment.step h.points).points (moment.step h.points).dense shortened)
      by (inr (inr extended)) = inr (brought head c (moment.step h.points).points (moment.step h.points).dense extended)

  -- a ring of the same indices with another list of as many entries
  carries-as : (c : List ℕ) (others away : List (List ℕ)) → pointer r c ≡ pointer r x → indices r c ≡ indices r x → ring_list r start ++ others ≡ away ++ ring_list r c → (IsDense r start → (away ≡ []) ⊎ (r.count ≤ length (ring_list r c) + 1)) → RingKeeps r start c others
  carries-as c others away pointers same shown full = record {
    points = subst (λ (n : ℕ). n < r.count) (sym pointers) h.points;
    dense = λ d. dense (h.dense d);
    gone = away;
    shown = shown;
    full = full;
  }
    where
      dense : IsDense r x → IsDense r c
      dense (inl none) = inl (same ∙ none)
      dense (inr (last, run)) =
          inr (
            last,
            record {
              below = run.below;
              at_pointer = ⊎_elim (λ at. inl (at ∙ sym pointers)) (λ before. inr (before ∙ sym pointers)) run.at_pointer;
              len = run.len;
              few = run.few;
              indices_are = same ∙ run.indices_are;
            },
          )

  -- the same bytes of the ring
  pub carries-same : IsShape r → (c : List ℕ) → bytes_at c r.base (size_of r) ≡ bytes_at x r.base (size_of r) → RingKeeps r start c more
  carries-same shape c bytes =
      let is = ring_elsewhere r shape x c bytes h.points in
      carries-as c more h.gone is.0 is.1 (h.shown ∙ ap (λ (l : List (List ℕ)). h.gone ++ l) (sym is.2))
      (λ d. ⊎_elim (λ none. inl none) (λ lacks. inr (subst (λ (l : List (List ℕ)). r.count ≤ length l + 1) (sym is.2) lacks)) (h.full d))

  -- bytes outside it
  pub carries-still : IsShape r → (place len : ℕ) (c : List ℕ) → (place + len ≤ r.base) ⊎ (r.base + size_of r ≤ place) → SameOutside place len x c → RingKeeps r start c more
  carries-still shape place len c apart same = carries-same shape c (ring_outside r place len x c apart same)

  -- one of the run's entries gets other bytes where it stands
  module _ (c : List ℕ) (i : ℕ) (bytes : List ℕ) (front back : List ℕ) (pointers : pointer r c ≡ pointer r x) (same : indices r c ≡ indices r x) (there : indices r x ≡ front ++ i ∷ back)
      (alone : AllByRecursion (λ (j : ℕ). (j == i) ≡ false) (front ++ back)) (list : ring_list r c ≡ map (λ j. if j == i then bytes else entry_at r x j) (indices r x)) (own : (i == i) ≡ true)
      (older : List (List ℕ)) (e : List ℕ) (newer : List (List ℕ)) (are : more ≡ older ++ e ∷ newer) (as_many : length newer ≡ length back) where
    abbrev turned : ℕ → List ℕ
    turned j = if j == i then bytes else entry_at r x j

    list-was : ring_list r x ≡ map (entry_at r x) front ++ entry_at r x i ∷ map (entry_at r x) back
    list-was = ap (map (entry_at r x)) there ∙ map-append (entry_at r x) front (i ∷ back)

    list-now : ring_list r c ≡ map (entry_at r x) front ++ bytes ∷ map (entry_at r x) back
    list-now =
        list ∙ ap (map turned) there ∙ map-append turned front (i ∷ back)
        ∙ (λ k. others front (all-front (λ (j : ℕ). (j == i) ≡ false) front back alone) k ++ cond (own k) bytes (entry_at r x i) ∷ others back (all-back (λ (j : ℕ). (j == i) ≡ false) front back alone) k)
      where
        others : (js : List ℕ) → AllByRecursion (λ (j : ℕ). (j == i) ≡ false) js → map turned js ≡ map (entry_at r x) js
        others [] all = refl
        others (j ∷ js) all = λ k. cond (all.0 k) bytes (entry_at r x j) ∷ others js all.1 k

    split : (ring_list r start ++ older ≡ h.gone ++ map (entry_at r x) front) × (e ≡ entry_at r x i) × (newer ≡ map (entry_at r x) back)
    split =
        same-parts (ring_list r start ++ older) (h.gone ++ map (entry_at r x) front) e (entry_at r x i) newer (map (entry_at r x) back)
        (append_assoc (ring_list r start) older (e ∷ newer) ∙ ap (λ (l : List (List ℕ)). ring_list r start ++ l) (sym are) ∙ h.shown
        ∙ ap (λ (l : List (List ℕ)). h.gone ++ l) list-was ∙ sym (append_assoc h.gone (map (entry_at r x) front) (entry_at r x i ∷ map (entry_at r x) back)))
        (as_many ∙ sym (length-map back (entry_at r x)))

    -- it was that entry, and is this one now
    pub entry-was : e ≡ entry_at r x i
    entry-was = split.1

    pub carries-changed : RingKeeps r start c (older ++ bytes ∷ newer)
    carries-changed =
        carries-as c (older ++ bytes ∷ newer) h.gone pointers same
        (sym (append_assoc (ring_list r start) older (bytes ∷ newer))
        ∙ (λ k. split.0 k ++ bytes ∷ split.2 k)
        ∙ append_assoc h.gone (map (entry_at r x) front) (bytes ∷ map (entry_at r x) back)
        ∙ ap (λ (l : List (List ℕ)). h.gone ++ l) (sym list-now))
        (λ d. ⊎_elim (λ none. inl none) (λ lacks. inr (let long : length (ring_list r c) ≡ length (ring_list r x) = length-as in omega (arith, lacks, long))) (h.full d))
      where
        length-as : length (ring_list r c) ≡ length (ring_list r x)
        length-as = length-map (indices r c) (entry_at r c) ∙ ap (λ (js : List ℕ). length js) same ∙ sym (length-map (indices r x) (entry_at r x))

  -- an entry that is gone may have been any other
  pub carries-gone : (older : List (List ℕ)) (e other : List ℕ) (newer : List (List ℕ)) → more ≡ older ++ e ∷ newer → length (ring_list r x) ≤ length newer → RingKeeps r start x (older ++ other ∷ newer)
  carries-gone older e other newer are many =
      let cut = front-of (ring_list r start ++ older) (ring_list r x) h.gone e newer
      (append_assoc (ring_list r start) older (e ∷ newer) ∙ ap (λ (l : List (List ℕ)). ring_list r start ++ l) (sym are) ∙ h.shown) many in
      carries-as x (older ++ other ∷ newer) ((ring_list r start ++ older) ++ other ∷ cut.0) refl refl
      (sym (append_assoc (ring_list r start) older (other ∷ newer))
      ∙ ap (λ (l : List (List ℕ)). (ring_list r start ++ older) ++ other ∷ l) cut.1
      ∙ sym (append_assoc (ring_list r start ++ older) (other ∷ cut.0) (ring_list r x)))
      (λ d. ⊎_elim (λ none. absurd (not-both h.gone (ring_list r start ++ older) e cut.0 none cut.2)) (λ lacks. inr lacks) (h.full d))

-- The indices of a ring's list while an entry is added.
use Rattle.std.proofs.Common.{◌≡◌, ◌≢◌, ◌⊎◌, inl, inr, ⊎_elim, ℕ, ◌-◌, ◌<◌, ◌≤◌, Bool, true, false, cond, List, [], ◌∷◌, ◌++◌, length, map, filter, refl, sym, ◌∙◌, ap, subst, arith, length-append}
use Rattle.std.proofs.lemmas.List.{map-append}
use Rattle.std.proofs.lemmas.List.Sums.{length-filter, count_by-le-length}
use Rattle.std.specs.List.{range_with_len}
use Rattle.std.proofs.lemmas.List.FromFn.{length-range_with_len}
use Rattle.gated_ring.specs.Ring.{Shape, pointer, PointsInside, is_there, entry_at, next, order, indices, ring_list, taken, without_first, staying, with_head}
use Rattle.gated_ring.specs.Change.{SameOthers}
use Rattle.gated_ring.proofs.Orders.{Each, each_weaker, each_filter, next_below, rest, rest_each, rest_others, order_each, order_first, order_last, filter_same, map_same, filter_first, filter_skip, filter_last, filter_short, first_gone, first_stays}

-- The pointer p and the index i that is taken: the pointer's own where no entry is there, else the next.
abbrev pub Chosen : Shape → List ℕ → ℕ → ℕ → Type 0
Chosen r x p i = ((is_there r x p ≡ true) × (i ≡ next r p)) ⊎ ((is_there r x p ≡ false) × (i ≡ p))

-- the index that is taken is chosen so
chosen_cases : (b : Bool) (n p : ℕ) → ((b ≡ true) × (cond b n p ≡ n)) ⊎ ((b ≡ false) × (cond b n p ≡ p))
chosen_cases true n p = inl (refl, refl)
chosen_cases false n p = inr (refl, refl)

pub taken_chosen : (r : Shape) (x : List ℕ) → Chosen r x (pointer r x) (taken r x)
taken_chosen r x = chosen_cases (is_there r x (pointer r x)) (next r (pointer r x)) (pointer r x)

module _ (r : Shape) (x : List ℕ) (p i : ℕ) (known : p < r.count) (chosen : Chosen r x p i) where
  pub chosen_below : i < r.count
  chosen_below = ⊎_elim (λ open_one. subst (λ (k : ℕ). k < r.count) (sym open_one.1) (next_below r p known)) (λ shut_one. subst (λ (k : ℕ). k < r.count) (sym shut_one.1) known) chosen

  abbrev pub There : List ℕ
  There = filter (is_there r x) (order r (next r p))

  abbrev pub Staying : List ℕ
  Staying = filter (is_there r x) (rest r i)

  -- it comes first in the list's order, or last where its entry isn't there
  abbrev pub Ordered : Type 0
  Ordered = (order r (next r p) ≡ i ∷ rest r i) ⊎ ((order r (next r p) ≡ rest r i ++ i ∷ []) × (is_there r x i ≡ false))

  pub ordered : Ordered
  ordered = ⊎_elim
      (λ open_one. inl (ap (order r) (sym open_one.1) ∙ order_first r i chosen_below))
      (λ shut_one. inr (ap (λ (k : ℕ). order r (next r k)) (sym shut_one.1) ∙ order_last r i chosen_below, ap (is_there r x) shut_one.1 ∙ shut_one.0))
      chosen

  pub staying_others : Each (λ j. j ≢ i) Staying
  staying_others = each_filter (λ j. j ≢ i) (is_there r x) (rest r i) (rest_others r i chosen_below)

  pub staying_each : Each (λ j. (j < r.count) × (j ≢ i)) Staying
  staying_each = each_filter (λ j. (j < r.count) × (j ≢ i)) (is_there r x) (rest r i) (rest_each r i chosen_below)

  -- the entry there is the first of the list, or it has none there
  pub there_cases : ((is_there r x i ≡ true) × (There ≡ i ∷ Staying)) ⊎ ((is_there r x i ≡ false) × (There ≡ Staying))
  there_cases = ⊎_elim
      (λ first. by (is_there r x i) refl first)
      (λ last. inr (last.1, ap (filter (is_there r x)) last.0 ∙ filter_short (is_there r x) (rest r i) i last.1))
      ordered
    where
      by : (b : Bool) → is_there r x i ≡ b → order r (next r p) ≡ i ∷ rest r i → ((is_there r x i ≡ true) × (There ≡ i ∷ Staying)) ⊎ ((is_there r x i ≡ false) × (There ≡ Staying))
      by true is first = inl (is, ap (filter (is_there r x)) first ∙ filter_first (is_there r x) i (rest r i) is)
      by false is first = inr (is, ap (filter (is_there r x)) first ∙ filter_skip (is_there r x) i (rest r i) is)

  pub staying_is : without_first i There ≡ Staying
  staying_is = ⊎_elim
      (λ there. ap (without_first i) there.1 ∙ first_gone i Staying)
      (λ shut. ap (without_first i) shut.1 ∙ first_stays i Staying staying_others)
      there_cases

  module _ (c : List ℕ) (same : SameOthers r i x c) where
    rest_same : filter (is_there r c) (rest r i) ≡ Staying
    rest_same = filter_same (is_there r x) (is_there r c) (rest r i)
        (each_weaker (λ j. (j < r.count) × (j ≢ i)) (λ j. is_there r c j ≡ is_there r x j) (rest r i) (λ j both. (same j both.0 both.1).1) (rest_each r i chosen_below))

    pub entries_same : map (entry_at r c) Staying ≡ map (entry_at r x) Staying
    entries_same = map_same (entry_at r x) (entry_at r c) Staying
        (each_weaker (λ j. (j < r.count) × (j ≢ i)) (λ j. entry_at r c j ≡ entry_at r x j) Staying (λ j both. (same j both.0 both.1).0) staying_each)

    -- while the place is free the list is the one without the entry that was there
    pub free_indices : (q : ℕ) → (q ≡ p) ⊎ (q ≡ i) → is_there r c i ≡ false → filter (is_there r c) (order r (next r q)) ≡ Staying
    free_indices q which shut = ⊎_elim
        (λ was. ap (λ (k : ℕ). filter (is_there r c) (order r (next r k))) was ∙ ⊎_elim
        (λ first. ap (filter (is_there r c)) first ∙ filter_skip (is_there r c) i (rest r i) shut ∙ rest_same)
        (λ last. ap (filter (is_there r c)) last.0 ∙ filter_short (is_there r c) (rest r i) i shut ∙ rest_same)
        ordered)
        (λ moved. ap (λ (k : ℕ). filter (is_there r c) (order r (next r k))) moved ∙ ap (filter (is_there r c)) (order_last r i chosen_below) ∙ filter_short (is_there r c) (rest r i) i shut ∙ rest_same)
        which

    -- and then it ends with the entry there
    pub final_indices : (q : ℕ) → q ≡ i → is_there r c i ≡ true → filter (is_there r c) (order r (next r q)) ≡ Staying ++ i ∷ []
    final_indices q moved there =
        ap (λ (k : ℕ). filter (is_there r c) (order r (next r k))) moved ∙ ap (filter (is_there r c)) (order_last r i chosen_below)
        ∙ filter_last (is_there r c) (rest r i) i there ∙ ap (λ (l : List ℕ). l ++ i ∷ []) rest_same

-- said of an image and the index that it takes
module _ (r : Shape) (x : List ℕ) (known : PointsInside r x) where
  pub taken_below : taken r x < r.count
  taken_below = chosen_below r x (pointer r x) (taken r x) known (taken_chosen r x)

  pub staying_there : staying r x ≡ filter (is_there r x) (rest r (taken r x))
  unfolding indices
  staying_there = staying_is r x (pointer r x) (taken r x) known (taken_chosen r x)

  pub staying_no_taken : Each (λ j. j ≢ taken r x) (staying r x)
  staying_no_taken = subst (Each (λ j. j ≢ taken r x)) (sym staying_there) (staying_others r x (pointer r x) (taken r x) known (taken_chosen r x))

  -- where an entry is there at the pointer's index, it is the last
  pub pointer_last : is_there r x (pointer r x) ≡ true → indices r x ≡ filter (is_there r x) (rest r (pointer r x)) ++ pointer r x ∷ []
  unfolding indices
  pointer_last there = ap (filter (is_there r x)) (order_last r (pointer r x) known) ∙ filter_last (is_there r x) (rest r (pointer r x)) (pointer r x) there

  pub indices_cases : ((is_there r x (taken r x) ≡ true) × (indices r x ≡ taken r x ∷ staying r x)) ⊎ ((is_there r x (taken r x) ≡ false) × (indices r x ≡ staying r x))
  unfolding indices
  indices_cases = ⊎_elim
      (λ there. inl (there.0, there.1 ∙ ap (λ (l : List ℕ). taken r x ∷ l) (sym staying_there)))
      (λ shut. inr (shut.0, shut.1 ∙ sym staying_there))
      (there_cases r x (pointer r x) (taken r x) known (taken_chosen r x))

  -- at most as many as there are places, and each is below the count
  pub few_indices : length (indices r x) ≤ r.count
  unfolding indices
  few_indices = omega (
    arith,
    length-filter (is_there r x) (order r (next r (pointer r x))),
    count_by-le-length (is_there r x) (order r (next r (pointer r x))),
    length-append (range_with_len (next r (pointer r x)) (r.count - next r (pointer r x))) (range_with_len 0 (next r (pointer r x))),
    length-range_with_len (next r (pointer r x)) (r.count - next r (pointer r x)),
    length-range_with_len 0 (next r (pointer r x)),
    next_below r (pointer r x) known,
  )

  pub indices_below : Each (λ j. j < r.count) (indices r x)
  unfolding indices
  indices_below = each_filter (λ j. j < r.count) (is_there r x) (order r (next r (pointer r x))) (order_each r (next r (pointer r x)) (next_below r (pointer r x) known))

  module _ (c : List ℕ) (same : SameOthers r (taken r x) x c) where
    entries_there : map (entry_at r c) (staying r x) ≡ map (entry_at r x) (staying r x)
    entries_there = ap (map (entry_at r c)) staying_there ∙ entries_same r x (pointer r x) (taken r x) known (taken_chosen r x) c same ∙ sym (ap (map (entry_at r x)) staying_there)

    pub shortened_indices : (pointer r c ≡ pointer r x) ⊎ (pointer r c ≡ taken r x) → is_there r c (taken r x) ≡ false → indices r c ≡ staying r x
    unfolding indices
    shortened_indices which shut = free_indices r x (pointer r x) (taken r x) known (taken_chosen r x) c same (pointer r c) which shut ∙ sym staying_there

    pub shortened_list : indices r c ≡ staying r x → ring_list r c ≡ map (entry_at r x) (staying r x)
    shortened_list are = ap (map (entry_at r c)) are ∙ entries_there

    pub extended_indices : pointer r c ≡ taken r x → is_there r c (taken r x) ≡ true → indices r c ≡ staying r x ++ taken r x ∷ []
    unfolding indices
    extended_indices moved there = final_indices r x (pointer r x) (taken r x) known (taken_chosen r x) c same (pointer r c) moved there ∙ ap (λ (l : List ℕ). l ++ taken r x ∷ []) (sym staying_there)

    pub extended_list : (head : List ℕ) → indices r c ≡ staying r x ++ taken r x ∷ [] → entry_at r c (taken r x) ≡ with_head r x (taken r x) head
        → ring_list r c ≡ map (entry_at r x) (staying r x) ++ with_head r x (taken r x) head ∷ []
    extended_list head are entry =
        ap (map (entry_at r c)) are ∙ map-append (entry_at r c) (staying r x) (taken r x ∷ [])
        ∙ ap (λ (l : List (List ℕ)). l ++ entry_at r c (taken r x) ∷ []) entries_there ∙ ap (λ (e : List ℕ). map (entry_at r x) (staying r x) ++ e ∷ []) entry

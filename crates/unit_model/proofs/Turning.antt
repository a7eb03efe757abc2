-- The slots that are there, before and after a new day takes the next one.
use Rattle.std.proofs.Common.{◌≡◌, ◌≢◌, ◌⊎◌, inl, inr, ⊎_elim, ℕ, zero, suc, ◌+◌, ◌-◌, ◌<◌, ◌≤◌, Bool, true, false, cond, List, [], ◌∷◌, ◌++◌, length, drop, map, filter, refl, sym, ◌∙◌, ap, subst, arith, length-append, length-drop}
use Rattle.std.specs.List.{range_with_len}
use Rattle.std.proofs.lemmas.List.{append-nil, map-append, length-map}
use Rattle.std.proofs.lemmas.List.Elements.{filter-append}
use Rattle.std.proofs.lemmas.List.FromFn.{length-range_with_len}
use Rattle.gated_ring.specs.Ring.{indices as ring_indices, pointer, is_there, entry_at, next, order, taken}
use Rattle.gated_ring.specs.Change.{IsAdding, IsAdded}
use Rattle.gated_ring.proofs.Orders as orders
use Rattle.gated_ring.proofs.Orders.{rest_each, order_first, order_last}
use Rattle.gated_ring.proofs.Listing.{Chosen, chosen_below, ordered, taken_chosen, staying_there}
use Rattle.unit_model.specs.declared.layout.TheConstants.{DAY_SLOTS}
use Rattle.unit_model.specs.Days.{StoredDay, Each}
use Rattle.unit_model.specs.Image.{day_ring, unit_day, indices, unit_days}
use Rattle.unit_model.specs.Writing.{behind_index}
use Rattle.unit_model.proofs.Slots.{day_at, all_days, map_map}

each_from : (P : ℕ → Type 0) (js : List ℕ) → orders.Each P js → Each P js
each_from P [] all = tt
each_from P (j ∷ js) all = (all.0, each_from P js all.1)

each_drop : (P : ℕ → Type 0) (m : ℕ) (js : List ℕ) → Each P js → Each P (drop m js)
each_drop P zero js all = all
each_drop P (suc m) [] all = tt
each_drop P (suc m) (j ∷ js) all = each_drop P m js all.1

each_filter : (P : ℕ → Type 0) (p : ℕ → Bool) (js : List ℕ) → Each P js → Each P (filter p js)
each_filter P p [] all = tt
each_filter P p (j ∷ js) all = by (each_filter P p js all.1) (p j)
  where
    by : Each P (filter p js) → (b : Bool) → Each P (cond b (j ∷ filter p js) (filter p js))
    by rest true = (all.0, rest)
    by rest false = rest

each_map : (P Q : ℕ → Type 0) (js : List ℕ) → ((j : ℕ) → P j → Q j) → Each P js → Each Q js
each_map P Q [] weaker all = tt
each_map P Q (j ∷ js) weaker all = (weaker j all.0, each_map P Q js weaker all.1)

days_same : (f h : ℕ → StoredDay) (js : List ℕ) → Each (λ j. f j ≡ h j) js → map f js ≡ map h js
days_same f h [] all = refl
days_same f h (j ∷ js) all = ap (λ (d : StoredDay). d ∷ map f js) all.0 ∙ ap (λ (l : List StoredDay). h j ∷ l) (days_same f h js all.1)

drop_append : (m : ℕ) (a b : List ℕ) → m ≤ length a → drop m (a ++ b) ≡ drop m a ++ b
drop_append zero a b le = refl
drop_append (suc m) [] b le = absurd (omega arith)
drop_append (suc m) (x ∷ a) b le = drop_append m a b (omega arith)

drop_none : {X : Type 0} (m : ℕ) (a : List X) → length a ≤ m → drop m a ≡ []
drop_none zero [] le = refl
drop_none zero (x ∷ a) le = absurd (omega arith)
drop_none (suc m) [] le = refl
drop_none (suc m) (x ∷ a) le = drop_none m a (omega arith)

pub behind_length : (i : ℕ) → i < DAY_SLOTS → length (behind_index i) ≡ (DAY_SLOTS - 1)
behind_length i below = omega (arith, length-append (range_with_len (i + 1) (DAY_SLOTS - (i + 1))) (range_with_len 0 i), length-range_with_len (i + 1) (DAY_SLOTS - (i + 1)), length-range_with_len 0 i)

abbrev pub others_of : List ℕ → List ℕ
others_of x = filter (is_there day_ring x) (behind_index (taken day_ring x))

module _ (x : List ℕ) (known : pointer day_ring x < DAY_SLOTS) where
  abbrev t : ℕ
  t = taken day_ring x

  abbrev p : ℕ
  p = pointer day_ring x

  abbrev F : List ℕ
  F = others_of x

  chosen : Chosen day_ring x p t
  chosen = taken_chosen day_ring x

  pub taken_below : t < DAY_SLOTS
  taken_below = chosen_below day_ring x p t known chosen

  behind_each : Each (λ j. (j < DAY_SLOTS) × (j ≢ t)) (behind_index t)
  behind_each = each_from (λ j. (j < DAY_SLOTS) × (j ≢ t)) (behind_index t) (rest_each day_ring t taken_below)

  pub others_each : Each (λ j. (j < DAY_SLOTS) × (j ≢ t)) F
  others_each = each_filter (λ j. (j < DAY_SLOTS) × (j ≢ t)) (is_there day_ring x) (behind_index t) behind_each

  -- the next index comes first where its slot is there
  pub indices_cases : ((is_there day_ring x t ≡ true) × (indices x ≡ t ∷ F)) ⊎ ((is_there day_ring x t ≡ false) × (indices x ≡ F))
  unfolding indices ring_indices
  indices_cases = ⊎_elim
      (λ first. by first (is_there day_ring x t) refl)
      (λ last. inr (last.1, ap (filter (is_there day_ring x)) last.0 ∙ filter-append (is_there day_ring x) (behind_index t) (t ∷ []) ∙ ap (λ (b : Bool). F ++ cond b (t ∷ []) []) last.1 ∙ append-nil F))
      (ordered day_ring x p t known chosen)
    where
      by : order day_ring (next day_ring p) ≡ t ∷ behind_index t → (b : Bool) → is_there day_ring x t ≡ b
          → ((is_there day_ring x t ≡ true) × (filter (is_there day_ring x) (order day_ring (next day_ring p)) ≡ t ∷ F)) ⊎ ((is_there day_ring x t ≡ false) × (filter (is_there day_ring x) (order day_ring (next day_ring p)) ≡ F))
      by first true is = inl (is, ap (filter (is_there day_ring x)) first ∙ ap (λ (b : Bool). cond b (t ∷ F) F) is)
      by first false is = inr (is, ap (filter (is_there day_ring x)) first ∙ ap (λ (b : Bool). cond b (t ∷ F) F) is)

  -- what a layer above needs: the days that stay are the newest 365
  pub record IsReady : Type 0 where
    pub dense : (missing : ℕ) × (missing ≤ (DAY_SLOTS - 1)) × (F ≡ drop missing (behind_index t))
    pub days : map (day_at x) F ≡ drop (length (unit_days x) - (DAY_SLOTS - 1)) (unit_days x)

  few_others : (m : ℕ) → F ≡ drop m (behind_index t) → length F ≤ (DAY_SLOTS - 1)
  few_others m is = omega (arith, ap length is, length-drop m (behind_index t), behind_length t taken_below)

  days_full : (l : List ℕ) → indices x ≡ t ∷ F → length F ≡ (DAY_SLOTS - 1) → map (day_at x) F ≡ drop (length (unit_days x) - (DAY_SLOTS - 1)) (unit_days x)
  days_full l is full =
      let all : unit_days x ≡ day_at x t ∷ map (day_at x) F = all_days x ∙ ap (map (day_at x)) is in
      let one : length (unit_days x) - (DAY_SLOTS - 1) ≡ 1 = omega (arith, ap length all, length-map F (day_at x), full) in
      sym (ap (λ (n : ℕ). drop n (unit_days x)) one ∙ ap (drop 1) all)

  days_room : indices x ≡ F → length F ≤ (DAY_SLOTS - 1) → map (day_at x) F ≡ drop (length (unit_days x) - (DAY_SLOTS - 1)) (unit_days x)
  days_room is few =
      let all : unit_days x ≡ map (day_at x) F = all_days x ∙ ap (map (day_at x)) is in
      let none : length (unit_days x) - (DAY_SLOTS - 1) ≡ 0 = omega (arith, ap length all, length-map F (day_at x), few) in
      sym (ap (λ (n : ℕ). drop n (unit_days x)) none ∙ all)

  pub ready_empty : indices x ≡ [] → IsReady
  ready_empty none = ⊎_elim
      (λ there. absurd (omega (arith, ap length (sym none ∙ there.1))))
      (λ shut.
      let empty : F ≡ [] = sym shut.1 ∙ none in
      record {
        dense = ((DAY_SLOTS - 1), omega arith, empty ∙ sym (drop_none (DAY_SLOTS - 1) (behind_index t) (omega (arith, behind_length t taken_below))));
        days = days_room shut.1 (omega (arith, ap length empty));
      })
      indices_cases

  pub ready_behind : (i m : ℕ) → i < DAY_SLOTS → m ≤ (DAY_SLOTS - 1) → indices x ≡ drop m (behind_index i) ++ i ∷ [] → t ≡ next day_ring i → IsReady
  ready_behind i m below le is next_is = by m le is
    where
      turned : behind_index i ++ i ∷ [] ≡ t ∷ behind_index t
      turned = sym (order_last day_ring i below) ∙ ap (order day_ring) (sym next_is) ∙ order_first day_ring t taken_below

      all : (m : ℕ) → m ≤ (DAY_SLOTS - 1) → indices x ≡ drop m (behind_index i) ++ i ∷ [] → indices x ≡ drop m (t ∷ behind_index t)
      all m le is = is ∙ sym (drop_append m (behind_index i) (i ∷ []) (omega (arith, behind_length i below))) ∙ ap (drop m) turned

      no_t : (l : List ℕ) → Each (λ j. (j < DAY_SLOTS) × (j ≢ t)) (t ∷ l) → ⊥
      no_t l each = each.0.1 refl

      by : (m : ℕ) → m ≤ (DAY_SLOTS - 1) → indices x ≡ drop m (behind_index i) ++ i ∷ [] → IsReady
      by zero le is = ⊎_elim
          (λ there.
          let same : F ≡ behind_index t = ap (drop 1) (sym there.1 ∙ all 0 le is) in
          record { dense = (0, omega arith, same); days = days_full [] there.1 (ap length same ∙ behind_length t taken_below) })
          (λ shut. absurd (no_t (behind_index t) (subst (Each (λ j. (j < DAY_SLOTS) × (j ≢ t))) (sym shut.1 ∙ all 0 le is) others_each)))
          indices_cases
      by (suc m) le is = ⊎_elim
          (λ there. absurd (no_t F (subst (Each (λ j. (j < DAY_SLOTS) × (j ≢ t))) (sym (all (suc m) le is) ∙ there.1) (each_drop (λ j. (j < DAY_SLOTS) × (j ≢ t)) m (behind_index t) behind_each))))
          (λ shut.
          let same : F ≡ drop m (behind_index t) = sym shut.1 ∙ all (suc m) le is in
          record { dense = (m, omega arith, same); days = days_room shut.1 (few_others m same) })
          indices_cases

  -- the days at a moment of an `add`
  pub adding_days : (head c : List ℕ) → IsAdding day_ring head x c
      → (unit_days c ≡ unit_days x) ⊎ ((unit_days c ≡ map (day_at x) F) ⊎ (unit_days c ≡ map (day_at x) F ++ unit_day (head ++ drop (length head) (entry_at day_ring x t)) ∷ []))
  unfolding unit_days
  adding_days head c adding =
      let entry : List ℕ = head ++ drop (length head) (entry_at day_ring x t) in
      ⊎_elim
      (λ same. inl (ap unit_days same))
      (λ more. inr (⊎_elim
      (λ less. inl (ap (map unit_day) (less.list_is ∙ ap (map (entry_at day_ring x)) (staying_there day_ring x known)) ∙ map_map x F))
      (λ whole. inr (ap (map unit_day) (whole.list_is ∙ ap (λ (l : List ℕ). map (entry_at day_ring x) l ++ entry ∷ []) (staying_there day_ring x known)) ∙ map-append unit_day (map (entry_at day_ring x) F) (entry ∷ [])
      ∙ ap (λ (l : List StoredDay). l ++ unit_day entry ∷ []) (map_map x F)))
      more))
      (adding.step known).list

  -- and after it
  module _ (head y : List ℕ) (added : IsAdded day_ring head x y) where
    pub added_pointer : pointer day_ring y ≡ t
    added_pointer = (added.list known).pointer_is

    pub added_entry : entry_at day_ring y t ≡ head ++ drop (length head) (entry_at day_ring x t)
    added_entry = (added.list known).entry

    pub added_indices : indices y ≡ F ++ t ∷ []
    unfolding indices ring_indices
    added_indices = (added.list known).indices_are ∙ ap (λ (l : List ℕ). l ++ t ∷ []) (staying_there day_ring x known)

    pub added_older : map (day_at y) F ≡ map (day_at x) F
    added_older = days_same (day_at y) (day_at x) F (each_map (λ j. (j < DAY_SLOTS) × (j ≢ t)) (λ j. day_at y j ≡ day_at x j) F (λ j both. ap unit_day (added.others known j both.0 both.1).0) others_each)

    pub added_next : taken day_ring y ≡ next day_ring t
    added_next = (added.list known).next_is

-- The recorded days of an image by their slots.
use Rattle.std.proofs.Common.{◌≡◌, not, refl, ℕ, zero, suc, ◌+◌, ◌/◌, Bool, true, false, cond, List, [], ◌∷◌, length, map, filter, Some, ◌∙◌, ap, subst, arith}
use Rattle.std.specs.Prelude.{◌==◌, nat_le, slice_get}
use Rattle.std.proofs.lemmas.List.{length-map}
use Rattle.gated_ring.specs.Ring.{number_at, entry_at, is_there}
use Rattle.unit_model.specs.declared.layout.TheConstants.{DAY_SLOT_SIZE}
use Rattle.unit_model.specs.Days.{day_of, day_shown, days_shown, Each}
use Rattle.unit_model.specs.Image.{last_kept, day_ring, slot_place, slot_date, indices, recorded, recorded_indices}
use Rattle.unit_model.proofs.Numbers.{number_in}
use Rattle.unit_model.proofs.Slots.{day_at, all_days}

-- a fact of each member, at one
pub each_get : (P : ℕ → Type 0) (xs : List ℕ) (k i : ℕ) → Each P xs → slice_get xs k ≡ Some i → P i
each_get P [] k i all is = absurd (cc)
each_get P (x ∷ xs) zero i all is = subst P (let e : x ≡ i = cc in e) all.0
each_get P (x ∷ xs) (suc k) i all is = each_get P xs k i all.1 is

-- the date of a slot, in its bytes
pub date_in : (x : List ℕ) (i : ℕ) → number_at (entry_at day_ring x i) 0 4 ≡ slot_date x i
date_in x i = number_in x (slot_place i) DAY_SLOT_SIZE 0 4 (omega arith) ∙ ap (λ (q : ℕ). number_at x q 4) (let e : slot_place i + 0 ≡ slot_place i = omega arith in e)

pub recorded_is : (x : List ℕ) (k : ℕ) → last_kept x ≡ k → recorded x ≡ days_shown k (Rattle.unit_model.specs.Image.unit_days x)
unfolding recorded
recorded_is x k is = ap (λ (m : ℕ). days_shown m (Rattle.unit_model.specs.Image.unit_days x)) is

filter_of : {X : Type 0} (p : X → Bool) (f : ℕ → X) (js : List ℕ) → filter p (map f js) ≡ map f (filter (λ j. p (f j)) js)
filter_of p f [] = refl
filter_of {X} p f (j ∷ js) = by (filter_of p f js) (p (f j))
  where
    by : filter p (map f js) ≡ map f (filter (λ i. p (f i)) js) → (b : Bool) → cond b (f j ∷ filter p (map f js)) (filter p (map f js)) ≡ map f (cond b (j ∷ filter (λ i. p (f i)) js) (filter (λ i. p (f i)) js))
    by rest true = ap (λ (l : List X). f j ∷ l) rest
    by rest false = rest

pub map_of : {X Y : Type 0} (h : X → Y) (f : ℕ → X) (js : List ℕ) → map h (map f js) ≡ map (λ j. h (f j)) js
map_of h f [] = refl
map_of {X} {Y} h f (j ∷ js) = ap (λ (l : List Y). h (f j) ∷ l) (map_of h f js)

-- the recorded days are those of their slots
pub recorded_are : (x : List ℕ) → recorded x ≡ map (λ i. day_shown (last_kept x) (day_at x i)) (recorded_indices x)
unfolding recorded_indices
recorded_are x =
    let k = last_kept x in
    let day_same : (i : ℕ) → day_of (day_at x i) ≡ slot_date x i / 86400 = λ i. ap (λ (d : ℕ). d / 86400) (date_in x i) in
    recorded_is x k refl ∙ ap (days_shown k) (all_days x) ∙ ap (map (day_shown k)) (filter_of (λ d. nat_le (day_of d) (k / 1440)) (day_at x) (indices x))
    ∙ map_of (day_shown k) (day_at x) (filter (λ i. nat_le (day_of (day_at x i)) (k / 1440)) (indices x))
    ∙ (λ t. map (λ i. day_shown k (day_at x i)) (filter (λ i. nat_le (day_same i t) (k / 1440)) (indices x)))

-- and as many
pub recorded_length : (x : List ℕ) → length (recorded x) ≡ length (recorded_indices x)
recorded_length x = ap length (recorded_are x) ∙ length-map (recorded_indices x) (λ i. day_shown (last_kept x) (day_at x i))

-- whether a slot is there, by its date
pub there_is : (x : List ℕ) (i : ℕ) → is_there day_ring x i ≡ not (slot_date x i == 0)
there_is x i = ap (λ (q : ℕ). not (number_at x q 4 == 0)) (let e : slot_place i + 0 ≡ slot_place i = omega arith in e)

-- Walks over more slots.
use Rattle.std.proofs.Common.{◌≡◌, ℕ, zero, suc, ◌+◌, List, [], ◌∷◌, ◌++◌, refl, ◌∙◌, ap, arith}
use Rattle.std.specs.List.{range_with_len}
use Rattle.unit_model.specs.Image.{slot_date}
use Rattle.unit_memory.specs.Walks.{next_walk, walk_from}
use Rattle.unit_memory.specs.declared.walk.Walk.{Walk}

pub walk_append : (day : ℕ) (x : List ℕ) (s : Walk) (a b : List ℕ) → walk_from day x s (a ++ b) ≡ walk_from day x (walk_from day x s a) b
walk_append day x s [] b = refl
walk_append day x s (i ∷ is) b = walk_append day x (next_walk day s i (slot_date x i)) is b

pub range_more : (a n j k : ℕ) → a + n ≡ j → k ≡ suc n → range_with_len a k ≡ range_with_len a n ++ j ∷ []
range_more a n j k at is = ap (range_with_len a) is ∙ by a n ∙ ap (λ (m : ℕ). range_with_len a n ++ m ∷ []) at
  where
    by : (a n : ℕ) → range_with_len a (suc n) ≡ range_with_len a n ++ (a + n) ∷ []
    by a zero = ap (λ (m : ℕ). m ∷ []) (let e : a ≡ a + 0 = omega arith in e)
    by a (suc n) = ap (λ (l : List ℕ). a ∷ l) (by (a + 1) n ∙ ap (λ (m : ℕ). range_with_len (a + 1) n ++ m ∷ []) (let e : a + 1 + n ≡ a + suc n = omega arith in e))

-- with one slot more
pub walk_more : (day : ℕ) (x : List ℕ) (s w : Walk) (a i n k : ℕ) → a + n ≡ i → k ≡ suc n → w ≡ walk_from day x s (range_with_len a n)
    → next_walk day w i (slot_date x i) ≡ walk_from day x s (range_with_len a k)
walk_more day x s w a i n k at is was =
    ap (λ (v : Walk). next_walk day v i (slot_date x i)) was
    ∙ Rattle.std.proofs.Common.sym (ap (walk_from day x s) (range_more a n i k at is) ∙ walk_append day x s (range_with_len a n) (i ∷ []))

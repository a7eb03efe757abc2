-- Where a limit is first passed.
use Rattle.std.proofs.Common.{◌≡◌, ◌∙◌, ℕ, ◌+◌, List, [], ◌∷◌, ◌++◌, sym, subst, arith, inl, inr}
use Rattle.std.proofs.lemmas.List.Sums.{sum_by-cons}
use Rattle.trace_model.specs.declared.Item.{Item}
use Rattle.trace_model.specs.Trace.{item_seconds, total_seconds}
use Rattle.trace_text.specs.Trace.{IsWithinLimits, items_of}
use Rattle.trace_text.specs.Judged.{IsPassedAt}

pub total-cons : (line : ℕ) (item : Item) (placed : List (ℕ × Item)) → total_seconds (items_of ((line, item) ∷ placed)) ≡ item_seconds item + total_seconds (items_of placed)
total-cons line item placed = sum_by-cons item_seconds item (items_of placed)

-- with more items behind, it is the same line
pub passed-front : (start total : ℕ) (xs ys : List (ℕ × Item)) (n : ℕ) → IsPassedAt start total xs n → IsPassedAt start total (xs ++ ys) n
passed-front start total [] ys n p = absurd p
passed-front start total ((line, item) ∷ xs) ys n (inl here) = inl here
passed-front start total ((line, item) ∷ xs) ys n (inr later) = inr (later.0, passed-front start (total + item_seconds item) xs ys n later.1)

-- it is one line
pub passed-one : (start total : ℕ) (xs : List (ℕ × Item)) (n m : ℕ) → IsPassedAt start total xs n → IsPassedAt start total xs m → n ≡ m
passed-one start total [] n m p q = absurd p
passed-one start total ((line, item) ∷ xs) n m (inl p) (inl q) = sym p.0 ∙ q.0
passed-one start total ((line, item) ∷ xs) n m (inl p) (inr q) = absurd (p.1 q.0)
passed-one start total ((line, item) ∷ xs) n m (inr p) (inl q) = absurd (q.1 p.0)
passed-one start total ((line, item) ∷ xs) n m (inr p) (inr q) = passed-one start (total + item_seconds item) xs n m p.1 q.1

-- and none within the limits
pub not_passed : (start total all : ℕ) (xs : List (ℕ × Item)) (n : ℕ) → all ≡ total + total_seconds (items_of xs) → IsWithinLimits start all → IsPassedAt start total xs n → ⊥
not_passed start total all [] n is within p = p
not_passed start total all ((line, item) ∷ xs) n is within (inl p) =
    let e = total-cons line item xs in p.1 (omega (arith, e, is, within.0), omega (arith, e, is, within.1))
not_passed start total all ((line, item) ∷ xs) n is within (inr p) =
    let e = total-cons line item xs in not_passed start (total + item_seconds item) all xs n (omega (arith, e, is)) within p.1

-- behind items that are within the limits
pub passed-behind : (start total all : ℕ) (xs ys : List (ℕ × Item)) (n : ℕ) → all ≡ total + total_seconds (items_of xs) → IsWithinLimits start all → IsPassedAt start all ys n → IsPassedAt start total (xs ++ ys) n
passed-behind start total all [] ys n is within p =
    let e : all ≡ total = omega (arith, is) in
    let P : ℕ → Type 0 = λ t. IsPassedAt start t ys n in subst P e p
passed-behind start total all ((line, item) ∷ xs) ys n is within p =
    let e = total-cons line item xs in
    inr ((omega (arith, e, is, within.0), omega (arith, e, is, within.1)), passed-behind start (total + item_seconds item) all xs ys n (omega (arith, e, is)) within p)

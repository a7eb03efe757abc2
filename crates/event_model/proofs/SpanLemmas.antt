-- Numbers one after another, and rows of seconds.
use Rattle.std.proofs.Common.{◌≡◌, ℕ, zero, suc, ◌+◌, ◌<◌, List, [], ◌∷◌, ◌++◌, length, map, refl, arith}
use Rattle.event_model.specs.Spans.{InARow, first_of, last_of, in_a_row}

-- the last of numbers one after another
pub last_of-row : (from : ℕ) (xs : List ℕ) → InARow from xs → 0 < length xs → last_of xs + 1 ≡ from + length xs
last_of-row from [] row some = absurd (omega (arith, some))
last_of-row from (x ∷ []) row some = let e : x ≡ from = row.0 in omega arith
last_of-row from (x ∷ y ∷ xs) row some =
    let more : 0 < length (y ∷ xs) = omega arith in
    let rest : last_of (y ∷ xs) + 1 ≡ from + 1 + length (y ∷ xs) = last_of-row (from + 1) (y ∷ xs) row.1 more in
    omega (arith, rest)

-- the first of them
pub first_of-row : (from : ℕ) (xs : List ℕ) → InARow from xs → 0 < length xs → first_of xs ≡ from
first_of-row from [] row some = absurd (omega (arith, some))
first_of-row from (x ∷ xs) row some = row.0

-- more of them behind
pub row-append : (from : ℕ) (xs ys : List ℕ) → InARow from xs → InARow (from + length xs) ys → InARow from (xs ++ ys)
row-append from [] ys row more = let e : from + 0 ≡ from = omega arith in rw e at more
row-append from (x ∷ xs) ys row more =
    let e : from + length (x ∷ xs) ≡ from + 1 + length xs = omega arith in
    (row.0, row-append (from + 1) xs ys row.1 (rw e at more))

module _ {T : Type 0} (number_of : T → ℕ) (one : ℕ → T) (numbered : (k : ℕ) → number_of (one k) ≡ k) where
  -- a row is numbered one after another
  pub row-in : (number n : ℕ) → InARow number (map number_of (in_a_row one number n))
  row-in number zero = tt
  row-in number (suc n) = (numbered number, row-in (number + 1) n)

pub length-row : {T : Type 0} (one : ℕ → T) (number n : ℕ) → length (in_a_row one number n) ≡ n
length-row one number zero = refl
length-row one number (suc n) = let e : length (in_a_row one (number + 1) n) ≡ n = length-row one (number + 1) n in omega (arith, e)

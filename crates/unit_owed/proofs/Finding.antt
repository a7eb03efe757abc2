-- Rows that are looked through one after the other.
use Rattle.std.proofs.Common.{◌≡◌, ◌↔◌, is_some, ℕ, zero, suc, ◌+◌, Bool, true, false, cond, List, [], ◌∷◌, ◌++◌, Option, Some, None, IfSome, length, ◌≤◌, refl, ◌∙◌, ap, arith}
use Rattle.std.specs.Prelude.{find, fold}
use Rattle.std.specs.List.{range_with_len}
use Rattle.unit_owed.specs.Searching.{or_this}
use Rattle.unit_owed.specs.Rows.{pieces_into, pieces_at, begun_index}
use Rattle.unit_owed.proofs.Taking.{begun_is}

range_more : (a n : ℕ) → range_with_len a (suc n) ≡ range_with_len a n ++ (a + n) ∷ []
range_more a zero = let same : a ≡ a + zero = omega arith in ap (λ (m : ℕ). m ∷ []) same
range_more a (suc n) = let same : a + 1 + n ≡ a + suc n = omega arith in ap (λ (l : List ℕ). a ∷ l) (range_more (a + 1) n ∙ ap (λ (m : ℕ). range_with_len (a + 1) n ++ m ∷ []) same)

pub range_next : (n : ℕ) → range_with_len 0 (n + 1) ≡ range_with_len 0 n ++ n ∷ []
range_next n =
    let next : n + 1 ≡ suc n = omega arith in
    let last : 0 + n ≡ n = omega arith in
    ap (range_with_len 0) next ∙ range_more 0 n ∙ ap (λ (m : ℕ). range_with_len 0 n ++ m ∷ []) last

find_behind : (test : ℕ → Bool) (l : List ℕ) (n : ℕ) → find test (l ++ n ∷ []) ≡ or_this (find test l) n (test n)
find_behind test [] n = refl
find_behind test (m ∷ l) n = by (test m) (find_behind test l n)
  where
    by : (b : Bool) → find test (l ++ n ∷ []) ≡ or_this (find test l) n (test n) → cond b (Some m) (find test (l ++ n ∷ [])) ≡ or_this (cond b (Some m) (find test l)) n (test n)
    by true rest = refl
    by false rest = rest

pub found_next : (test : ℕ → Bool) (n : ℕ) → find test (range_with_len 0 (n + 1)) ≡ or_this (find test (range_with_len 0 n)) n (test n)
found_next test n = ap (find test) (range_next n) ∙ find_behind test (range_with_len 0 n) n

fold_behind : (step : Option ℕ → ℕ → Option ℕ) (start : Option ℕ) (l : List ℕ) (n : ℕ) → fold step start (l ++ n ∷ []) ≡ step (fold step start l) n
fold_behind step start [] n = refl
fold_behind step start (m ∷ l) n = fold_behind step (step start m) l n

pub folded_next : (step : Option ℕ → ℕ → Option ℕ) (n : ℕ) → fold step None (range_with_len 0 (n + 1)) ≡ step (fold step None (range_with_len 0 n)) n
folded_next step n = ap (fold step None) (range_next n) ∙ fold_behind step None (range_with_len 0 n) n

-- what is said of a told image
pub of_told : (o : Option (List ℕ)) (A D : List ℕ → Type 0) → IfSome o A → ((x : List ℕ) → A x → D x) → IfSome o D
of_told None A D said all = tt
of_told (Some x) A D said all = all x said

-- how many writes there are
pub few_into : (m w : ℕ) (r : Option ℕ) → length (pieces_into m w r) ≤ 3
few_into m w None = omega arith
few_into m w (Some r) = omega arith

pub seven : (number : List ℕ) (session : ℕ) (spared : Option (List ℕ)) (rows : List ℕ) → length (pieces_at number session (begun_index number spared rows)) ≡ 7
seven number session spared rows = ap (λ (o : Option ℕ). length (pieces_at number session o)) (begun_is number spared rows).1.0

-- a row that was found is there
pub row_there : (o : Option ℕ) (found : Bool) → found ≡ is_some o → (found ≡ true) ↔ ((r : ℕ) × (o ≡ Some r))
row_there None found is = (λ yes. absurd (cc), λ some. absurd (cc))
row_there (Some r) found is = (λ yes. (r, refl), λ some. is)

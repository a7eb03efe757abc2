-- Which row is begun: there is always one, and it is not the spared number's.
use Rattle.std.proofs.Common.{◌≡◌, ◌≢◌, ◌⊎◌, inl, inr, ⊎_elim, ℕ, ◌<◌, Bool, true, false, cond, List, Option, Some, None, refl, sym, ◌∙◌, subst, arith}
use Rattle.std.specs.Prelude.{not, ◌==◌, nat_eq, nat_lt}
use Rattle.std.specs.List.{range_with_len}
use Rattle.std.specs.Cmp.Lexicographic.{pointwise}
use Rattle.std.proofs.lemmas.Bool.Decides.{nat_tests}
use Rattle.unit_owed.specs.Owed.{session_in, number_in, is_row_of, row_index}
use Rattle.unit_owed.specs.Rows.{is_this_row, lesser, least, empty_index, spared_index, or_else, begun_index}
use Rattle.unit_owed.proofs.Putting.{found_passes, found_below, rows_apart, and_both}

eq_true : (a b : ℕ) → a ≡ b → (a == b) ≡ true
eq_true a b is = grind (arith, nat_tests)

not_true : (a : Bool) → not a ≡ true → a ≡ true → ⊥
not_true true is also = absurd (cc)
not_true false is also = absurd (cc)

-- a row, which is not the spared one
abbrev Good : Option ℕ → Option ℕ → Type 0
Good spared o = (z : ℕ) × ((o ≡ Some z) × ((z < 8) × (is_this_row spared z ≡ false)))

step : (rows : List ℕ) (spared o : Option ℕ) (r : ℕ) → r < 8 → Good spared o → Good spared (lesser rows spared o r)
step rows spared o r below good = subst (λ (p : Option ℕ). Good spared (lesser rows spared p r)) (sym good.1.0) (by (is_this_row spared r) refl)
  where
    inner : (d : Bool) → is_this_row spared r ≡ false → Good spared (cond d (Some r) (Some good.0))
    inner true free = (r, (refl, (below, free)))
    inner false free = (good.0, (refl, good.1.1))

    by : (b : Bool) → is_this_row spared r ≡ b → Good spared (cond b (Some good.0) (cond (nat_lt (session_in rows r) (session_in rows good.0)) (Some r) (Some good.0)))
    by true is = (good.0, (refl, good.1.1))
    by false free = inner (nat_lt (session_in rows r) (session_in rows good.0)) free

first : (rows : List ℕ) (spared : Option ℕ) → Good spared (lesser rows spared (lesser rows spared None 0) 1)
first rows None = step rows None (Some 0) 1 (omega arith) (0, (refl, (omega arith, refl)))
first rows (Some s) = by (s == 0) refl
  where
    zero_not : (s == 0) ≡ true → (s == 1) ≡ false
    zero_not is = grind (arith, nat_tests)

    second : (b : Bool) → (s == 1) ≡ b → b ≡ false → Good (Some s) (cond b None (Some 1))
    second b is free = subst (λ (d : Bool). Good (Some s) (cond d None (Some 1))) (sym free) (1, (refl, (omega arith, is ∙ free)))

    by : (b : Bool) → (s == 0) ≡ b → Good (Some s) (lesser rows (Some s) (cond b None (Some 0)) 1)
    by true is = second (s == 1) refl (zero_not is)
    by false free = step rows (Some s) (Some 0) 1 (omega arith) (0, (refl, (omega arith, free)))

least_good : (rows : List ℕ) (spared : Option ℕ) → Good spared (least rows spared)
least_good rows spared =
    let at = step rows spared in
    at _ 7 (omega arith) (at _ 6 (omega arith) (at _ 5 (omega arith) (at _ 4 (omega arith) (at _ 3 (omega arith) (at _ 2 (omega arith) (first rows spared))))))

-- the row that is begun, and where it comes from
pub begun_is : (number : List ℕ) (spared : Option (List ℕ)) (rows : List ℕ) → (r : ℕ) × ((begun_index number spared rows ≡ Some r) × ((r < 8)
    × ((row_index number rows ≡ Some r) ⊎ ((row_index number rows ≡ None) × ((empty_index rows ≡ Some r) ⊎ (is_this_row (spared_index spared rows) r ≡ false))))))
begun_is number spared rows = by (row_index number rows) refl
  where
    fewest : Good (spared_index spared rows) (least rows (spared_index spared rows))
    fewest = least_good rows (spared_index spared rows)

    inner : row_index number rows ≡ None → (o : Option ℕ) → empty_index rows ≡ o → (r : ℕ) × ((or_else o (least rows (spared_index spared rows)) ≡ Some r) × ((r < 8)
        × ((row_index number rows ≡ Some r) ⊎ ((row_index number rows ≡ None) × ((empty_index rows ≡ Some r) ⊎ (is_this_row (spared_index spared rows) r ≡ false))))))
    inner none (Some r) is = (r, (refl, (found_below (λ s. session_in rows s == 0) 0 8 r is, inr (none, inl is))))
    inner none None full = (fewest.0, (fewest.1.0, (fewest.1.1.0, inr (none, inr fewest.1.1.1))))

    by : (o : Option ℕ) → row_index number rows ≡ o → (r : ℕ) × ((or_else o (or_else (empty_index rows) (least rows (spared_index spared rows))) ≡ Some r) × ((r < 8)
        × ((row_index number rows ≡ Some r) ⊎ ((row_index number rows ≡ None) × ((empty_index rows ≡ Some r) ⊎ (is_this_row (spared_index spared rows) r ≡ false))))))
    by (Some r) is = (r, (refl, (found_below (is_row_of number rows) 0 8 r is, inl is)))
    by None none = inner none (empty_index rows) refl

-- it is not the spared number's
pub spared_apart : (n number rows : List ℕ) → n ≢ number → row_index n rows ≢ begun_index number (Some n) rows
spared_apart n number rows differ same = ⊎_elim own (λ rest. ⊎_elim none least_one rest.1) begun.1.1.1
  where
    begun : (r : ℕ) × ((begun_index number (Some n) rows ≡ Some r) × ((r < 8)
        × ((row_index number rows ≡ Some r) ⊎ ((row_index number rows ≡ None) × ((empty_index rows ≡ Some r) ⊎ (is_this_row (spared_index (Some n) rows) r ≡ false))))))
    begun = begun_is number (Some n) rows

    his : row_index n rows ≡ Some begun.0
    his = same ∙ begun.1.0

    own : row_index number rows ≡ Some begun.0 → ⊥
    own mine = rows_apart n number rows begun.0 begun.0 differ his mine refl

    none : empty_index rows ≡ Some begun.0 → ⊥
    none empty = not_true (session_in rows begun.0 == 0)
        (and_both (not (session_in rows begun.0 == 0)) (pointwise nat_eq (number_in rows begun.0) n) (found_passes (is_row_of n rows) (range_with_len 0 8) begun.0 his)).0
        (found_passes (λ s. session_in rows s == 0) (range_with_len 0 8) begun.0 empty)

    clash : (a : ℕ) → (a == a) ≡ false → ⊥
    clash a is = absurd (grind (arith, nat_tests, eq_true a a refl))

    least_one : is_this_row (spared_index (Some n) rows) begun.0 ≡ false → ⊥
    least_one free = clash begun.0 (subst (λ (o : Option ℕ). is_this_row o begun.0 ≡ false) his free)

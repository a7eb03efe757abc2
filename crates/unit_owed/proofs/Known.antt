-- The index of a row over a row that is begun: the spared number's stays.
use Rattle.std.proofs.Common.{◌≡◌, ◌≢◌, ⊎_elim, ℕ, ◌<◌, Bool, true, false, List, Option, Some, refl, sym, ◌∙◌, ap, subst, arith}
use Rattle.std.specs.Prelude.{not, ◌&&◌, ◌==◌, nat_eq}
use Rattle.std.specs.List.{range_with_len}
use Rattle.std.specs.Cmp.Lexicographic.{pointwise, bytes_decides}
use Rattle.unit_owed.specs.Owed.{rows_in, session_in, number_in, is_row_of}
use Rattle.unit_owed.specs.Rows.{begun_index, or_else, least, empty_index, spared_index, IsRowBegun, IsRowAt}
use Rattle.unit_owed.proofs.Putting.{found_below, found_passes}
use Rattle.unit_owed.proofs.Taking.{begun_is, spared_apart}
use Rattle.unit_owed.proofs.Beginning.{eq_cases, find_at, find_before}

and_false : (a b : Bool) → b ≡ false → (a && b) ≡ false
and_false true b is = is
and_false false b is = refl

module _ (number n : List ℕ) (session : ℕ) (x y : List ℕ) (is : IsRowBegun number session (Some n) x y) (differ : n ≢ number) where
  abbrev b : ℕ
  b = (begun_is number (Some n) (rows_in x)).0

  this : begun_index number (Some n) (rows_in x) ≡ Some b
  this = (begun_is number (Some n) (rows_in x)).1.0

  -- the row that is begun is not this number's any more
  not_here : is_row_of n (rows_in y) b ≡ false
  not_here = and_false (not (session_in (rows_in y) b == 0)) (pointwise nat_eq (number_in (rows_in y) b) n) (by (pointwise nat_eq (number_in (rows_in y) b) n) refl)
    where
      by : (t : Bool) → pointwise nat_eq (number_in (rows_in y) b) n ≡ t → pointwise nat_eq (number_in (rows_in y) b) n ≡ false
      by true same = absurd (differ (sym ((bytes_decides (number_in (rows_in y) b) n).0 same) ∙ (is.row b this).named))
      by false none = none

  -- each other row is whose it was
  elsewhere : (s : ℕ) → s < 8 → s ≢ b → is_row_of n (rows_in y) s ≡ is_row_of n (rows_in x) s
  elsewhere s below apart =
      let same = is.beginning.rows s below (λ at. apart (one s b (sym at ∙ this))) in
      λ t. not ((same.1 t).session == 0) && pointwise nat_eq (same.0 t) n
    where
      one : (a c : ℕ) → Some a ≡ Some c → a ≡ c
      one a c at = cc

  index_other : (r : ℕ) → IsRowAt r n x → IsRowAt r n y
  index_other r his =
      let below = found_below (is_row_of n (rows_in x)) 0 8 r his in
      let apart : r ≢ b = λ same. spared_apart n number (rows_in x) differ (his ∙ ap Some same ∙ sym this) in
      find_at (is_row_of n (rows_in y)) 0 8 r (omega arith) (omega (arith, below))
      (λ s less. ⊎_elim
      (λ same. subst (λ (k : ℕ). is_row_of n (rows_in y) k ≡ false) (sym same) not_here)
      (λ other. elsewhere s (omega (arith, less, below)) other ∙ find_before (is_row_of n (rows_in x)) 0 8 r s his (omega arith) less)
      (eq_cases s b))
      (elsewhere r below apart ∙ found_passes (is_row_of n (rows_in x)) (range_with_len 0 8) r his)

-- the row that is begun for a number which has one is its own
index_own : (number n : List ℕ) (session : ℕ) (x y : List ℕ) → IsRowBegun number session (Some n) x y → (r : ℕ) → IsRowAt r number x → IsRowAt r number y
index_own number n session x y is r his = is.index ∙ ap (λ (o : Option ℕ). or_else o (or_else (empty_index (rows_in x)) (least (rows_in x) (spared_index (Some n) (rows_in x))))) his

pub index_spared : (number n : List ℕ) (session : ℕ) (x y : List ℕ) → IsRowBegun number session (Some n) x y → (r : ℕ) → IsRowAt r n x → IsRowAt r n y
index_spared number n session x y is r his = by (pointwise nat_eq n number) refl
  where
    by : (t : Bool) → pointwise nat_eq n number ≡ t → IsRowAt r n y
    by true same =
        let one : n ≡ number = (bytes_decides n number).0 same in
        subst (λ (m : List ℕ). IsRowAt r m y) (sym one) (index_own number n session x y is r (subst (λ (m : List ℕ). IsRowAt r m x) one his))
    by false none = index_other number n session x y is (λ one. two (sym none ∙ (bytes_decides n number).1 one)) r his
      where
        two : false ≡ true → ⊥
        two e = cc

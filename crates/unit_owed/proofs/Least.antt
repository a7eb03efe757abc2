-- The row with the least session time: no other row has less, but the spared one.
use Rattle.std.proofs.Common.{◌≡◌, ◌⊎◌, inl, inr, ⊎_elim, ℕ, ◌+◌, ◌<◌, ◌≤◌, Bool, true, false, cond, List, Option, Some, None, refl, sym, ◌∙◌, subst, arith}
use Rattle.std.specs.Prelude.{nat_lt}
use Rattle.std.proofs.lemmas.Bool.{cases_lt}
use Rattle.std.proofs.lemmas.Bool.Decides.{nat_tests}
use Rattle.unit_owed.specs.Owed.{session_in}
use Rattle.unit_owed.specs.Rows.{is_this_row, lesser, least}

some-is : (a b : ℕ) → Some a ≡ Some b → a ≡ b
some-is a b is = cc

none-some : (b : ℕ) → None ≡ Some b → ⊥
none-some b is = cc

both-not : true ≡ false → ⊥
both-not is = cc

later : (a b : ℕ) → nat_lt a b ≡ true → a < b
later a b is = grind (arith, nat_tests)

not-later : (a b : ℕ) → nat_lt a b ≡ false → b ≤ a
not-later a b is = grind (arith, nat_tests)

last-or-before : (s n : ℕ) → s < n + 1 → (s ≡ n) ⊎ (s < n)
last-or-before s n low = ⊎_elim (λ less. inr less) (λ more. inl (omega (arith, low, more))) (cases_lt s n)

-- of the first rows, without the spared one, none has less
abbrev pub NoneIsLess : (rows : List ℕ) (spared : Option ℕ) (n : ℕ) (o : Option ℕ) → Type 0
NoneIsLess rows spared n o = (s : ℕ) → s < n → is_this_row spared s ≡ false → (b : ℕ) × (o ≡ Some b) × (session_in rows b ≤ session_in rows s)

step-less : (rows : List ℕ) (spared o : Option ℕ) (n : ℕ) → NoneIsLess rows spared n o → NoneIsLess rows spared (n + 1) (lesser rows spared o n)
step-less rows spared None n less = λ s low free. by s low free (is_this_row spared n) refl
  where
    by : (s : ℕ) → s < n + 1 → is_this_row spared s ≡ false → (d : Bool) → is_this_row spared n ≡ d → (b : ℕ) × (cond d None (Some n) ≡ Some b) × (session_in rows b ≤ session_in rows s)
    by s low free true is = ⊎_elim
        (λ same. absurd (both-not (sym (subst (λ (m : ℕ). is_this_row spared m ≡ true) (sym same) is) ∙ free)))
        (λ differ. let had = less s differ free in absurd (none-some had.0 had.1))
        (last-or-before s n low)
    by s low free false is = ⊎_elim
        (λ same. (n, refl, subst (λ (m : ℕ). session_in rows n ≤ session_in rows m) (sym same) (omega arith)))
        (λ differ. let had = less s differ free in absurd (none-some had.0 had.1))
        (last-or-before s n low)
step-less rows spared (Some c) n less = λ s low free. by s low free (is_this_row spared n) refl (nat_lt (session_in rows n) (session_in rows c)) refl
  where
    before : (s : ℕ) → s < n → is_this_row spared s ≡ false → session_in rows c ≤ session_in rows s
    before s low free = let had = less s low free in subst (λ (b : ℕ). session_in rows b ≤ session_in rows s) (sym (some-is c had.0 had.1)) had.2

    by : (s : ℕ) → s < n + 1 → is_this_row spared s ≡ false → (d : Bool) → is_this_row spared n ≡ d → (e : Bool) → nat_lt (session_in rows n) (session_in rows c) ≡ e
        → (b : ℕ) × (cond d (Some c) (cond e (Some n) (Some c)) ≡ Some b) × (session_in rows b ≤ session_in rows s)
    by s low free true is e order = ⊎_elim
        (λ same. absurd (both-not (sym (subst (λ (m : ℕ). is_this_row spared m ≡ true) (sym same) is) ∙ free)))
        (λ differ. (c, refl, before s differ free))
        (last-or-before s n low)
    by s low free false is true order = ⊎_elim
        (λ same. (n, refl, subst (λ (m : ℕ). session_in rows n ≤ session_in rows m) (sym same) (omega arith)))
        (λ differ. let first = later (session_in rows n) (session_in rows c) order in let rest = before s differ free in (n, refl, omega (arith, first, rest)))
        (last-or-before s n low)
    by s low free false is false order = ⊎_elim
        (λ same. (c, refl, subst (λ (m : ℕ). session_in rows c ≤ session_in rows m) (sym same) (not-later (session_in rows n) (session_in rows c) order)))
        (λ differ. (c, refl, before s differ free))
        (last-or-before s n low)

least-less : (rows : List ℕ) (spared : Option ℕ) → NoneIsLess rows spared 8 (least rows spared)
least-less rows spared =
    let at = step-less rows spared in
    at _ 7 (at _ 6 (at _ 5 (at _ 4 (at _ 3 (at _ 2 (at _ 1 (at None 0 (λ s low free. absurd (omega (arith, low))))))))))

pub least-is : (rows : List ℕ) (spared : Option ℕ) (k : ℕ) → least rows spared ≡ Some k → (s : ℕ) → s < 8 → is_this_row spared s ≡ false → session_in rows k ≤ session_in rows s
least-is rows spared k is s low free = let had = least-less rows spared s low free in subst (λ (b : ℕ). session_in rows b ≤ session_in rows s) (some-is had.0 k (sym had.1 ∙ is)) had.2

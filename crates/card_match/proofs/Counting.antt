-- The counts of some entries, and of one more.
use Rattle.std.proofs.Common.{◌≡◌, ◌∙◌, ℕ, ◌+◌, ◌≤◌, ◌&&◌, Bool, true, false, not, List, [], ◌∷◌, ◌++◌, cond, refl, ap, sym, arith, add-zero}
use Rattle.std.specs.Prelude.{count_by}
use Rattle.std.proofs.lemmas.List.Sums.{fold-append}
use Rattle.activity_codec.specs.declared.entries.Entry.{Entry}
use Rattle.card_match.specs.Matching.{Against, is_own, is_early, is_other, is_before, is_tested}
use Rattle.card_match.specs.Differences.{differs, AreCounted}
use Rattle.card_match.specs.Cases.{IsSort, counted, total, is_missed}
use Rattle.card_match.specs.declared.verdict.Sort.{Sort}
use Rattle.card_match.specs.declared.verdict.Sort.TheVariants.{Other, Before, Standing, Missed}
use Rattle.card_match.specs.declared.verdict.Counts.{Counts}

count_last : {X : Type 0} (p : X → Bool) (xs : List X) (x : X) → count_by p (xs ++ x ∷ []) ≡ count_by p xs + cond (p x) 1 0
count_last {X} p xs x = fold-append (λ (n : ℕ) (y : X). n + cond (p y) 1 0) 0 xs (x ∷ [])

count_yes : {X : Type 0} (p : X → Bool) (xs : List X) (x : X) → p x ≡ true → count_by p (xs ++ x ∷ []) ≡ count_by p xs + 1
count_yes p xs x passes = count_last p xs x ∙ ap (λ (b : Bool). count_by p xs + cond b 1 0) passes

count_no : {X : Type 0} (p : X → Bool) (xs : List X) (x : X) → p x ≡ false → count_by p (xs ++ x ∷ []) ≡ count_by p xs
count_no p xs x fails = count_last p xs x ∙ ap (λ (b : Bool). count_by p xs + cond b 1 0) fails ∙ add-zero (count_by p xs)

-- of another vehicle
by_other : (own early : Bool) → own ≡ false → ((own && not early) ≡ false) × ((own && early) ≡ false) × (not own ≡ true)
by_other own early other = rw other (refl, refl, refl)

by_before : (own early : Bool) → (own && early) ≡ true → ((own && not early) ≡ false) × (not own ≡ false)
by_before true true is = (refl, refl)
by_before true false is = cc
by_before false early is = cc

by_tested : (own early : Bool) → (own && not early) ≡ true → ((own && early) ≡ false) × (not own ≡ false)
by_tested true true is = cc
by_tested true false is = (refl, refl)
by_tested false early is = cc

one_tested : (a : Against) (es : List Entry) (e : Entry) (c : Counts) → AreCounted a es c → is_tested a e ≡ true → AreCounted a (es ++ e ∷ []) (record { tested = c.tested + 1; other = c.other; before = c.before })
one_tested a es e c are is =
    let no = by_tested (is_own a e) (is_early a e) is in record {
      tested_are = ap (λ (n : ℕ). n + 1) are.tested_are ∙ sym (count_yes (is_tested a) es e is);
      other_are = are.other_are ∙ sym (count_no (is_other a) es e no.1);
      before_are = are.before_are ∙ sym (count_no (is_before a) es e no.0);
    }

-- one entry more, of any sort
pub one_more : (a : Against) (es : List Entry) (e : Entry) (c : Counts) (s : Sort) → AreCounted a es c → IsSort a e s → AreCounted a (es ++ e ∷ []) (counted c s)
one_more a es e c Other are is =
    let no = by_other (is_own a e) (is_early a e) is in record {
      tested_are = are.tested_are ∙ sym (count_no (is_tested a) es e no.0);
      other_are = ap (λ (n : ℕ). n + 1) are.other_are ∙ sym (count_yes (is_other a) es e no.2);
      before_are = are.before_are ∙ sym (count_no (is_before a) es e no.1);
    }
one_more a es e c Before are is =
    let no = by_before (is_own a e) (is_early a e) is in record {
      tested_are = are.tested_are ∙ sym (count_no (is_tested a) es e no.0);
      other_are = are.other_are ∙ sym (count_no (is_other a) es e no.1);
      before_are = ap (λ (n : ℕ). n + 1) are.before_are ∙ sym (count_yes (is_before a) es e is);
    }
one_more a es e c Standing are is = one_tested a es e c are is.0
one_more a es e c Missed are is = one_tested a es e c are is.0

-- none yet
pub none_counted : (a : Against) → AreCounted a [] (record { tested = 0; other = 0; before = 0 })
none_counted a = record { tested_are = refl; other_are = refl; before_are = refl }

-- it differs exactly where it is missed
pub differs_as : (a : Against) (e : Entry) (s : Sort) → IsSort a e s → differs a e ≡ is_missed s
differs_as a e Other is = let no = by_other (is_own a e) (is_early a e) is in rw no.0 refl
differs_as a e Before is = let no = by_before (is_own a e) (is_early a e) is in rw no.0 refl
differs_as a e Standing is = rw (is.0, is.1) refl
differs_as a e Missed is = rw (is.0, is.1) refl

-- one more at most
pub total_more : (c : Counts) (s : Sort) → total (counted c s) ≤ total c + 1
total_more c Other = omega arith
total_more c Before = omega arith
total_more c Standing = omega arith
total_more c Missed = omega arith

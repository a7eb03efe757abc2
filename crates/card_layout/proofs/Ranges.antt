-- The ranges of files that stand one after the other lie inside the whole and do not overlap.
use Rattle.std.proofs.Common.{◌≡◌, ◌≢◌, ℕ, ◌+◌, ◌≤◌, inl, inr, Bool, true, false, List, [], ◌∷◌, Option, Some, None, refl, sym, ◌∙◌, subst, arith}
use Rattle.std.specs.Prelude.{◌==◌, ◌↔◌, if◌then◌else◌, IsSome, IsTrue, IfSome}
use Rattle.std.proofs.lemmas.Bool.{eqb-true}
use Rattle.card_layout.specs.declared.files.Application.{Application}
use Rattle.card_layout.specs.declared.files.CardFile.{CardFile}
use Rattle.card_layout.specs.declared.files.Fid.{Fid}
use Rattle.card_layout.specs.declared.files.Range.{Range}
use Rattle.card_layout.specs.Files.{files_of, range_from, range_of, total_size, image_size_of, AreApart, is_listed}

-- a file begins behind those before it, and ends before those after it
pub range_within : (base : ℕ) (fs : List CardFile) (fid : Fid) (r : Range) → range_from base fs fid ≡ Some r → (base ≤ r.base) × (r.base + r.len ≤ base + total_size fs)
range_within base [] fid r is = absurd cc
range_within base (f ∷ fs) fid r is = here (fid.0 == f.fid.0) is (range_within (base + f.size) fs fid r)
  where
    here : (b : Bool) → (if b then Some (record { base = base; len = f.size }) else range_from (base + f.size) fs fid) ≡ Some r
        → (range_from (base + f.size) fs fid ≡ Some r → (base + f.size ≤ r.base) × (r.base + r.len ≤ base + f.size + total_size fs))
        → (base ≤ r.base) × (r.base + r.len ≤ base + (f.size + total_size fs))
    here true at later =
        let q : Range = record { base = base; len = f.size } in
        let same : q ≡ r = cc in
        subst (λ (p : Range). (base ≤ p.base) × (p.base + p.len ≤ base + (f.size + total_size fs))) same (omega arith, omega arith)
    here false at later = let there = later at in (omega (arith, there.0), omega (arith, there.1))

-- inside the flat image
pub range_inside : (app : Application) (fid : Fid) (r : Range) → range_of app fid ≡ Some r → r.base + r.len ≤ image_size_of app
range_inside app fid r is = omega (arith, (range_within 0 (files_of app) fid r is).1)

swapped : (a b : Range) → AreApart a b → AreApart b a
swapped a b (inl h) = inr h
swapped a b (inr h) = inl h

-- the first file lies before each later one
head_before : (base size : ℕ) (fs : List CardFile) (fid : Fid) (a b : Range) → Some (record { base = base; len = size }) ≡ Some a → range_from (base + size) fs fid ≡ Some b → AreApart a b
head_before base size fs fid a b at is =
    let q : Range = record { base = base; len = size } in
    let same : q ≡ a = cc in
    let behind = range_within (base + size) fs fid b is in
    subst (λ (p : Range). AreApart p b) same (inl behind.0)

-- files with different identifiers do not overlap
pub ranges_apart : (base : ℕ) (fs : List CardFile) (fid other : Fid) (a b : Range) → fid.0 ≢ other.0
    → range_from base fs fid ≡ Some a → range_from base fs other ≡ Some b → AreApart a b
ranges_apart base [] fid other a b differ one two = absurd cc
ranges_apart base (f ∷ fs) fid other a b differ one two =
    by_tests (fid.0 == f.fid.0) (other.0 == f.fid.0) refl refl one two (ranges_apart (base + f.size) fs fid other a b differ)
  where
    by_tests : (p q : Bool) → (fid.0 == f.fid.0) ≡ p → (other.0 == f.fid.0) ≡ q
        → (if p then Some (record { base = base; len = f.size }) else range_from (base + f.size) fs fid) ≡ Some a
        → (if q then Some (record { base = base; len = f.size }) else range_from (base + f.size) fs other) ≡ Some b
        → (range_from (base + f.size) fs fid ≡ Some a → range_from (base + f.size) fs other ≡ Some b → AreApart a b)
        → AreApart a b
    by_tests true true ep eq one two later = absurd (differ (eqb-true _ _ ep ∙ sym (eqb-true _ _ eq)))
    by_tests true false ep eq one two later = head_before base f.size fs other a b one two
    by_tests false true ep eq one two later = swapped b a (head_before base f.size fs fid b a two one)
    by_tests false false ep eq one two later = later one two

-- the files that have a range are those of the table
pub listed-range_from : (base : ℕ) (fs : List CardFile) (fid : Fid) → IsSome (range_from base fs fid) ↔ IsTrue (is_listed fs fid)
listed-range_from base [] fid = (λ some. some, λ yes. yes)
listed-range_from base (f ∷ fs) fid = by_test (fid.0 == f.fid.0) (listed-range_from (base + f.size) fs fid)
  where
    by_test : (b : Bool) → (IsSome (range_from (base + f.size) fs fid) ↔ IsTrue (is_listed fs fid))
        → IsSome (if b then Some (record { base = base; len = f.size }) else range_from (base + f.size) fs fid) ↔ IsTrue (if b then true else is_listed fs fid)
    by_test true later = (λ _. refl, λ _. refl)
    by_test false later = later

-- the same of what a search for a file answers
pub if_inside : (app : Application) (fid : Fid) (o : Option Range) → o ≡ range_of app fid → IfSome o (λ r. r.base + r.len ≤ image_size_of app)
if_inside app fid None is = tt
if_inside app fid (Some r) is = range_inside app fid r (sym is)

pub if_apart : (app : Application) (fid : Fid) (o : Option Range) → o ≡ range_of app fid
    → IfSome o (λ r. (other : Fid) (b : Range) → fid.0 ≢ other.0 → range_of app other ≡ Some b → AreApart r b)
if_apart app fid None is = tt
if_apart app fid (Some r) is = λ other b differ found. ranges_apart 0 (files_of app) fid other r b differ (sym is) found

pub if_listed : (app : Application) (fid : Fid) (o : Option Range) → o ≡ range_of app fid → IsSome o ↔ IsTrue (is_listed (files_of app) fid)
if_listed app fid o is = rw is (listed-range_from 0 (files_of app) fid)

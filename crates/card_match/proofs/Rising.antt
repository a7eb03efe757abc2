-- Entries that rise by their minutes, and the cases of them.
use Rattle.std.proofs.Common.{◌≡◌, ◌∙◌, ℕ, zero, suc, ◌+◌, ◌<◌, ◌≤◌, List, [], ◌∷◌, length, get_or, map, refl, ap, arith}
use Rattle.std.specs.List.{AllByRecursion}
use Rattle.std.specs.List.Sorted.{IsNonDecreasingBy}
use Rattle.std.proofs.Math.ListN.{length-map}
use Rattle.std.proofs.lemmas.List.{get_or-map}
use Rattle.std.proofs.lemmas.List.Sorted.{IsNonDecreasingBy-from_all_adjacent}
use Rattle.activity_codec.specs.declared.entries.Entry.{Entry}
use Rattle.card_match.specs.declared.cases.Case.{Case}
use Rattle.card_retention.specs.Retains.{Rise}
use Rattle.card_match.specs.Cases.{AreRising, minute_of_case, fresh}

abbrev minute_of_entry : Entry → ℕ
minute_of_entry e = e.minute

-- a map that keeps the minutes
pub rising_map : {X : Type 0} (n : X → ℕ) (p : Case → ℕ) (f : X → Case) (xs : List X) → ((x : X) → p (f x) ≡ n x) → IsNonDecreasingBy n xs → IsNonDecreasingBy p (map f xs)
rising_map {X} n p f [] keeps rising = λ i j d le inside. absurd (omega arith)
rising_map {X} n p f (x ∷ xs) keeps rising = λ i j d le inside.
    let long : length (map f (x ∷ xs)) ≡ length (x ∷ xs) = length-map (x ∷ xs) f in
    let at : (k : ℕ) → k < length (x ∷ xs) → p (get_or (map f (x ∷ xs)) k d) ≡ n (get_or (x ∷ xs) k x) = λ k low. ap p (get_or-map f (x ∷ xs) k x d low) ∙ keeps (get_or (x ∷ xs) k x) in
    let first = at i (omega (arith, long, inside, le)) in
    let second = at j (omega (arith, long, inside)) in
    let rise = rising i j x le (omega (arith, long, inside)) in
    omega (arith, first, second, rise)

rise_next : (es : List Entry) → Rise es → (k : ℕ) (d : Entry) → k + 1 < length es → minute_of_entry (get_or es k d) ≤ minute_of_entry (get_or es (k + 1) d)
rise_next [] rise k d inside = absurd (omega arith)
rise_next (e ∷ []) rise k d inside = absurd (omega arith)
rise_next (e ∷ f ∷ es) rise zero d inside = omega (arith, rise.0)
rise_next (e ∷ f ∷ es) rise (suc k) d inside = let same : suc k + 1 ≡ suc (k + 1) = omega arith in rw same (rise_next (f ∷ es) rise.1 k d (omega arith))

pub rising_entries : (es : List Entry) → Rise es → AreRising (map fresh es)
rising_entries es rise = rising_map minute_of_entry minute_of_case fresh es (λ e. refl) (IsNonDecreasingBy-from_all_adjacent minute_of_entry es (λ k d inside. rise_next es rise k d inside))

-- entries that rise below a minute are no more than that
pub rise_few : (n : ℕ) (e : Entry) (es : List Entry) → Rise (e ∷ es) → AllByRecursion (λ (f : Entry). f.minute < n) (e ∷ es) → e.minute + length (e ∷ es) ≤ n
rise_few n e [] rise low = omega (arith, low.0)
rise_few n e (f ∷ es) rise low = let rest = rise_few n f es rise.1 low.1 in omega (arith, rise.0, rest)

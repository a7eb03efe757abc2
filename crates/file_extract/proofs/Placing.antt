-- Where in a download the entry stands that stands at a place of what is passed on.
use Rattle.std.proofs.Common.{◌≡◌, ◌∙◌, inl, inr, ⊎_elim, ℕ, ◌+◌, ◌-◌, ◌≤◌, Bool, true, false, cond, List, [], ◌∷◌, ◌++◌, length, map, drop, refl, ap, sym, subst, arith, All, append_assoc, append-nil, length-append, drop_at}
use Rattle.std.specs.Prelude.{nat_eq}
use Rattle.std.proofs.lemmas.List.{length-drop, drop-drop, length-take-le}
use Rattle.std.proofs.lemmas.Bool.Decides.{nat_tests}
use Rattle.card_layout.specs.Fields.{joined}
use Rattle.card_image.specs.CardFile.{FileEntry, entry_bytes}
use Rattle.file_view.specs.declared.fault.ViewFault.{ViewFault}
use Rattle.file_view.specs.declared.fault.ViewFault.TheVariants.{BadFile, Memory}
use Rattle.file_view.specs.Faults.{IfBadFile}
use Rattle.file_view.specs.CardFiles.{IsBadCardFile}
use Rattle.file_extract.specs.declared.card.CardPart.{CardPart}
use Rattle.file_extract.specs.declared.entries.DownloadEntry.{DownloadEntry}
use Rattle.file_extract.specs.Cards.{IsDownloadEntry}
use Rattle.file_extract.specs.Reading.{told_at, told, IsEntryAt, StandThere, end_of}
use Rattle.file_extract.specs.Part.{IsPassedOn}
use Rattle.file_extract.specs.Judged.{IsToldFor, place_for, fault_for, IsNone}
use Rattle.file_extract.proofs.Exact.{of_file, entry_same, all_rest}

-- how many bytes an entry has
entry_size : (e : FileEntry) → length (entry_bytes e) ≡ 5 + length e.value
entry_size e = omega (arith, ap (λ (l : List ℕ). length l) (append-nil e.value))

value_size : (bytes : List ℕ) (x : DownloadEntry) → IsEntryAt bytes x → length (told_at bytes x).value ≡ x.len
value_size bytes x here = length-take-le x.len (drop (x.place + 5) bytes) (omega (arith, length-drop (x.place + 5) bytes, here.inside))

-- no such place is beyond the download
pub place_low : (bytes : List ℕ) (passed : List DownloadEntry) → StandThere bytes passed → (at : ℕ) → place_for passed at (length bytes) ≤ length bytes
place_low bytes [] stand at = omega arith
place_low bytes (x ∷ xs) stand at = by (nat_eq at 0) (place_low bytes xs stand.1 (at - 5 - x.len))
  where
    by : (b : Bool) → place_for xs (at - 5 - x.len) (length bytes) ≤ length bytes → cond b x.place (place_for xs (at - 5 - x.len) (length bytes)) ≤ length bytes
    by true others = omega (arith, stand.0.inside)
    by false others = others

-- one entry more in front
behind_one : (bytes : List ℕ) (x : DownloadEntry) (xs : List DownloadEntry) (place at : ℕ) → IsToldFor bytes (joined (map entry_bytes (told bytes xs))) place at
    → IsToldFor bytes (joined (map entry_bytes (told bytes (x ∷ xs)))) place (length (entry_bytes (told_at bytes x)) + at)
behind_one bytes x xs place at is = ⊎_elim
    (λ ends. inl (omega (arith, ends.0, length-append (entry_bytes (told_at bytes x)) (joined (map entry_bytes (told bytes xs)))), ends.1))
    (λ stands. inr (record {
      entry = stands.entry;
      more = stands.more;
      behind = stands.behind;
      spelled = stands.spelled;
      passed = sym (drop-drop at (length (entry_bytes (told_at bytes x))) (entry_bytes (told_at bytes x) ++ joined (map entry_bytes (told bytes xs))))
          ∙ ap (λ (l : List ℕ). drop at l) (drop_at (entry_bytes (told_at bytes x)) (joined (map entry_bytes (told bytes xs))) (length (entry_bytes (told_at bytes x))) refl) ∙ stands.passed;
    }))
    is

-- behind some entries of what is passed on stands the next one, or nothing
found : (bytes : List ℕ) (passed : List DownloadEntry) → StandThere bytes passed → (F : List FileEntry) (rest : List ℕ) → All IsDownloadEntry F
    → joined (map entry_bytes (told bytes passed)) ≡ joined (map entry_bytes F) ++ rest
    → IsToldFor bytes (joined (map entry_bytes (told bytes passed))) (place_for passed (length (joined (map entry_bytes F))) (length bytes)) (length (joined (map entry_bytes F)))
found bytes [] stand [] rest each is = inl (refl, refl)
found bytes (x ∷ xs) stand [] rest each is = inr (record { entry = told_at bytes x; more = drop (end_of x) bytes; behind = joined (map entry_bytes (told bytes xs)); spelled = stand.0.spelled; passed = refl })
found bytes [] stand (f ∷ fs) rest each is = absurd (cc)
found bytes (x ∷ xs) stand (f ∷ fs) rest each is =
    let same = entry_same (told_at bytes x) f (joined (map entry_bytes (told bytes xs))) (joined (map entry_bytes fs) ++ rest) stand.0.is (each 0 f (omega arith)) (is ∙ append_assoc (entry_bytes f) (joined (map entry_bytes fs)) rest) in
    let others = found bytes xs stand.1 fs rest (all_rest f fs each) same.1 in
    let size : length (entry_bytes (told_at bytes x)) ≡ 5 + x.len = entry_size (told_at bytes x) ∙ ap (λ (n : ℕ). 5 + n) (value_size bytes x stand.0) in
    let at : length (joined (map entry_bytes (f ∷ fs))) ≡ length (entry_bytes (told_at bytes x)) + length (joined (map entry_bytes fs)) =
    length-append (entry_bytes f) (joined (map entry_bytes fs)) ∙ ap (λ (e : FileEntry). length (entry_bytes e) + length (joined (map entry_bytes fs))) (sym same.0) in
    let later : nat_eq (length (joined (map entry_bytes (f ∷ fs)))) 0 ≡ false = grind (arith, nat_tests, at, size) in
    let left : length (joined (map entry_bytes (f ∷ fs))) - 5 - x.len ≡ length (joined (map entry_bytes fs)) = omega (arith, at, size) in
    let place : place_for xs (length (joined (map entry_bytes fs))) (length bytes) ≡ place_for (x ∷ xs) (length (joined (map entry_bytes (f ∷ fs)))) (length bytes) =
    ap (λ (n : ℕ). place_for xs n (length bytes)) (sym left) ∙ ap (λ (b : Bool). cond b x.place (place_for xs (length (joined (map entry_bytes (f ∷ fs))) - 5 - x.len) (length bytes))) (sym later) in
    subst (λ (p : ℕ). IsToldFor bytes (joined (map entry_bytes (told bytes (x ∷ xs)))) p (length (joined (map entry_bytes (f ∷ fs))))) place
    (subst (λ (n : ℕ). IsToldFor bytes (joined (map entry_bytes (told bytes (x ∷ xs)))) (place_for xs (length (joined (map entry_bytes fs))) (length bytes)) n) (sym at)
    (behind_one bytes x xs (place_for xs (length (joined (map entry_bytes fs))) (length bytes)) (length (joined (map entry_bytes fs))) others))

-- so a fault of what is passed on is told of the download
pub refused : (bytes : List ℕ) (part : CardPart) (fault : ViewFault) → IsPassedOn bytes part → IfBadFile fault (λ at. IsBadCardFile at part.bytes.items)
    → IfBadFile (fault_for part.passed.items (length bytes) fault) (λ place. IsNone place bytes)
refused bytes part Memory is bad = tt
refused bytes part (BadFile at) is bad =
    let out : part.bytes.items ≡ joined (map entry_bytes (told bytes part.passed.items)) = is.bytes_are ∙ ap (λ (l : List FileEntry). joined (map entry_bytes l)) (sym is.passed) in
    let each : All IsDownloadEntry bad.entries = λ k d low. of_file _ (bad.each k d low) in
    let there = found bytes part.passed.items is.stand bad.entries bad.rest each (sym out ∙ bad.spelled) in
    let there_at = subst (λ (n : ℕ). IsToldFor bytes (joined (map entry_bytes (told bytes part.passed.items))) (place_for part.passed.items n (length bytes)) n) (sym bad.place_is) there in
    record {
      entries = is.entries;
      rest = is.rest;
      download = is.download;
      at = at;
      bad = subst (IsBadCardFile at) is.bytes_are bad;
      told = subst (λ (l : List FileEntry). IsToldFor bytes (joined (map entry_bytes l)) (place_for part.passed.items at (length bytes)) at) is.passed there_at;
    }

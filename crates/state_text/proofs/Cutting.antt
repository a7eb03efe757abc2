-- Where the spaces at the end begin.
use Rattle.std.proofs.Common.{◌≡◌, ◌∙◌, ℕ, ◌+◌, ◌<◌, ◌≤◌, true, false, List, [], ◌∷◌, ◌++◌, length, take, get_or, refl, ap, sym, arith}
use Rattle.std.specs.Prelude.{◌==◌, if◌then◌else◌}
use Rattle.std.proofs.lemmas.Bool.Decides.{nat_tests}
use Rattle.std.proofs.lemmas.List.{take_more}
use Rattle.activity_codec.proofs.ByTest.{by_test}
use Rattle.state_text.specs.Shown.{in_front, cut}

equal : (n k : ℕ) → (n == k) ≡ true → n ≡ k
equal n k is = grind (arith, nat_tests)

-- a space more changes nothing
cut-space : (xs : List ℕ) → cut (xs ++ 32 ∷ []) ≡ cut xs
cut-space [] = refl
cut-space (b ∷ xs) = ap (in_front b) (cut-space xs)

in_front-more : (b : ℕ) (xs : List ℕ) (c : ℕ) → in_front b (xs ++ c ∷ []) ≡ b ∷ (xs ++ c ∷ [])
in_front-more b [] c = refl
in_front-more b (x ∷ xs) c = refl

-- behind another byte nothing is cut
cut-other : (xs : List ℕ) (c : ℕ) → (c == 32) ≡ false → cut (xs ++ c ∷ []) ≡ xs ++ c ∷ []
cut-other [] c other = rw other refl
cut-other (b ∷ xs) c other = ap (in_front b) (cut-other xs c other) ∙ in_front-more b xs c

-- one byte more
pub cut-more : (xs : List ℕ) (i end : ℕ) → i < length xs → cut (take i xs) ≡ take end xs → cut (take (i + 1) xs) ≡ take (if get_or xs i 0 == 32 then end else i + 1) xs
cut-more xs i end lt so = by_test (get_or xs i 0 == 32) same other
  where
    same : (get_or xs i 0 == 32) ≡ true → cut (take (i + 1) xs) ≡ take (if get_or xs i 0 == 32 then end else i + 1) xs
    same is =
        ap cut (take_more xs i 0 lt)
        ∙ ap (λ (b : ℕ). cut (take i xs ++ b ∷ [])) (equal (get_or xs i 0) 32 is)
        ∙ cut-space (take i xs)
        ∙ so
        ∙ rw is refl

    other : (get_or xs i 0 == 32) ≡ false → cut (take (i + 1) xs) ≡ take (if get_or xs i 0 == 32 then end else i + 1) xs
    other is = ap cut (take_more xs i 0 lt) ∙ cut-other (take i xs) (get_or xs i 0) is ∙ sym (take_more xs i 0 lt) ∙ rw is refl

-- where it ends with one byte more
pub end-within : (b i end : ℕ) → end ≤ i → (if b == 32 then end else i + 1) ≤ i + 1
end-within b i end le = by_test (b == 32) (λ is. rw is (omega arith)) (λ is. rw is (omega arith))

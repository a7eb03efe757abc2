-- Where the spaces at the end begin.
use Rattle.std.proofs.Common.{◌≡◌, ◌∙◌, ℕ, suc, ◌+◌, ◌-◌, ◌<◌, ◌≤◌, replicate, Bool, true, false, List, [], ◌∷◌, ◌++◌, length, take, get_or, refl, ap, sym, arith}
use Rattle.std.specs.Prelude.{◌==◌, if◌then◌else◌}
use Rattle.std.proofs.lemmas.Bool.Decides.{nat_tests}
use Rattle.std.proofs.lemmas.List.{take_more}
use Rattle.json_fields.specs.Texts.{in_front, cut}

-- cases of a test, with what it gave
pub by_test : {P : Type 0} → (b : Bool) → (b ≡ true → P) → (b ≡ false → P) → P
by_test true on_true on_false = on_true refl
by_test false on_true on_false = on_false refl

pub equal : (n k : ℕ) → (n == k) ≡ true → n ≡ k
equal n k is = grind (arith, nat_tests)

-- a space more changes nothing
cut-space : (xs : List ℕ) → cut (xs ++ 32 ∷ []) ≡ cut xs
cut-space [] = refl
cut-space (b ∷ xs) = ap (in_front b) (cut-space xs)

in_front-more : (b : ℕ) (xs : List ℕ) (c : ℕ) → in_front b (xs ++ c ∷ []) ≡ b ∷ (xs ++ c ∷ [])
in_front-more b [] c = refl
in_front-more b (x ∷ xs) c = refl

-- behind another byte nothing is cut
cut-other : (xs : List ℕ) (c : ℕ) → (c == 32) ≡ false → cut (xs ++ c ∷ []) ≡ xs ++ c ∷ []
cut-other [] c other = rw other refl
cut-other (b ∷ xs) c other = ap (in_front b) (cut-other xs c other) ∙ in_front-more b xs c

-- one byte more
pub cut-more : (xs : List ℕ) (i end : ℕ) → i < length xs → cut (take i xs) ≡ take end xs → cut (take (i + 1) xs) ≡ take (if get_or xs i 0 == 32 then end else i + 1) xs
cut-more xs i end lt so = by_test (get_or xs i 0 == 32) same other
  where
    same : (get_or xs i 0 == 32) ≡ true → cut (take (i + 1) xs) ≡ take (if get_or xs i 0 == 32 then end else i + 1) xs
    same is =
        ap cut (take_more xs i 0 lt)
        ∙ ap (λ (b : ℕ). cut (take i xs ++ b ∷ [])) (equal (get_or xs i 0) 32 is)
        ∙ cut-space (take i xs)
        ∙ so
        ∙ rw is refl

    other : (get_or xs i 0 == 32) ≡ false → cut (take (i + 1) xs) ≡ take (if get_or xs i 0 == 32 then end else i + 1) xs
    other is = ap cut (take_more xs i 0 lt) ∙ cut-other (take i xs) (get_or xs i 0) is ∙ sym (take_more xs i 0 lt) ∙ rw is refl

-- where it ends with one byte more
pub end-within : (b i end : ℕ) → end ≤ i → (if b == 32 then end else i + 1) ≤ i + 1
end-within b i end le = by_test (b == 32) (λ is. rw is (omega arith)) (λ is. rw is (omega arith))

-- what is cut are spaces, as many as the length says
spaces_behind : (b : ℕ) (bytes front : List ℕ) → bytes ≡ front ++ replicate (length bytes - length front) 32 → length front ≤ length bytes
    → b ∷ bytes ≡ in_front b front ++ replicate (suc (length bytes) - length (in_front b front)) 32
spaces_behind b bytes (c ∷ front) is le = ap (λ (l : List ℕ). b ∷ l) is ∙ ap (λ (n : ℕ). b ∷ c ∷ front ++ replicate n 32) (let e : length bytes - length (c ∷ front) ≡ suc (length bytes) - suc (length (c ∷ front)) = omega arith in e)
spaces_behind b bytes [] is le = by_test (b == 32) same other
  where
    all : bytes ≡ replicate (length bytes) 32
    all = is ∙ ap (λ (n : ℕ). replicate n 32) (let e : length bytes - 0 ≡ length bytes = omega arith in e)

    behind : (front : List ℕ) → in_front b [] ≡ front → front ++ replicate (suc (length bytes) - length front) 32 ≡ in_front b [] ++ replicate (suc (length bytes) - length (in_front b [])) 32
    behind front front_is = ap (λ (l : List ℕ). l ++ replicate (suc (length bytes) - length l) 32) (sym front_is)

    same : (b == 32) ≡ true → b ∷ bytes ≡ in_front b [] ++ replicate (suc (length bytes) - length (in_front b [])) 32
    same space =
        let long : suc (length bytes) ≡ suc (length bytes) - 0 = omega arith in
        ap (λ (c : ℕ). c ∷ bytes) (equal b 32 space) ∙ ap (λ (l : List ℕ). 32 ∷ l) all ∙ ap (λ (n : ℕ). replicate n 32) long ∙ behind [] (rw space refl)

    other : (b == 32) ≡ false → b ∷ bytes ≡ in_front b [] ++ replicate (suc (length bytes) - length (in_front b [])) 32
    other differs =
        let long : length bytes ≡ suc (length bytes) - 1 = omega arith in
        ap (λ (l : List ℕ). b ∷ l) all ∙ ap (λ (n : ℕ). b ∷ replicate n 32) long ∙ behind (b ∷ []) (rw differs refl)

pub cut-short : (bytes : List ℕ) → length (cut bytes) ≤ length bytes
cut-short [] = omega arith
cut-short (b ∷ bytes) = by_front (cut bytes) (cut-short bytes)
  where
    by_front : (front : List ℕ) → length front ≤ length bytes → length (in_front b front) ≤ suc (length bytes)
    by_front [] le = by_test (b == 32) (λ is. rw is (omega arith)) (λ is. rw is (omega arith))
    by_front (c ∷ front) le = omega (arith, le)

pub cut-spaces : (bytes : List ℕ) → bytes ≡ cut bytes ++ replicate (length bytes - length (cut bytes)) 32
cut-spaces [] = refl
cut-spaces (b ∷ bytes) = spaces_behind b bytes (cut bytes) (cut-spaces bytes) (cut-short bytes)

-- so bytes of one length that are cut to the same are the same
pub cut-tells : (xs ys : List ℕ) → length xs ≡ length ys → cut xs ≡ cut ys → xs ≡ ys
cut-tells xs ys same is =
    cut-spaces xs ∙ ap (λ (l : List ℕ). l ++ replicate (length xs - length l) 32) is ∙ ap (λ (n : ℕ). cut ys ++ replicate (n - length (cut ys)) 32) same ∙ sym (cut-spaces ys)

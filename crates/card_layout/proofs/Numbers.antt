-- A number and its bytes, the highest first, are told by each other.
use Rattle.std.proofs.Common.{◌≡◌, ℕ, zero, suc, ◌+◌, ◌*◌, ◌^◌, ◌<◌, List, [], ◌∷◌, length, refl, sym, ap, ◌∙◌, arith}
use Rattle.std.proofs.Math.Nat.{mod-eq_of_lt, mod-lt}
use Rattle.std.proofs.lemmas.List.{append-nil}
use Rattle.std.proofs.lemmas.Nat.{same_from_place}
use Rattle.std.specs.Int.{bytes_high_first}
use Rattle.byteorder.specs.Endian.{big_from, big_number, big_bytes}
use Rattle.byteorder.specs.Numbers.{big_from-cons, big_from-lt, big_from-bytes, length-bytes_high_first}
use Rattle.card_layout.specs.Fields.{IsBytes}

-- the bytes of a number are bytes
pub IsBytes-big_bytes : (n x : ℕ) → IsBytes (big_bytes n x)
IsBytes-big_bytes zero x i = omega arith
IsBytes-big_bytes (suc zero) x zero = mod-lt x (omega arith)
IsBytes-big_bytes (suc (suc n)) x zero = mod-lt _ (omega arith)
IsBytes-big_bytes (suc n) x (suc i) = IsBytes-big_bytes n x i

-- as many bytes, and the same number: the same bytes
pub big_number-injective : (n : ℕ) (xs ys : List ℕ) → length xs ≡ n → length ys ≡ n → IsBytes xs → IsBytes ys → big_number n xs ≡ big_number n ys → xs ≡ ys
big_number-injective zero [] [] lx ly bx by e = refl
big_number-injective zero (x ∷ xs) ys lx ly bx by e = absurd (omega arith)
big_number-injective zero [] (y ∷ ys) lx ly bx by e = absurd (omega arith)
big_number-injective (suc n) [] ys lx ly bx by e = absurd (omega arith)
big_number-injective (suc n) (x ∷ xs) [] lx ly bx by e = absurd (omega arith)
big_number-injective (suc n) (x ∷ xs) (y ∷ ys) lx ly bx by e =
    let bxs : IsBytes xs = λ i. bx (suc i) in
    let bys : IsBytes ys = λ i. by (suc i) in
    let same : x * 256 ^ n + big_from 0 n xs ≡ y * 256 ^ n + big_from 0 n ys =
    ap (λ (r : ℕ). x * 256 ^ n + r) (sym (big_from-cons 0 n x xs)) ∙ e ∙ ap (λ (r : ℕ). y * 256 ^ n + r) (big_from-cons 0 n y ys) in
    let parts = same_from_place x (big_from 0 n xs) y (big_from 0 n ys) (256 ^ n) (big_from-lt 0 n xs bxs) (big_from-lt 0 n ys bys) same in
    rw (parts.0, big_number-injective n xs ys (omega arith) (omega arith) bxs bys parts.1) refl

-- the number in the bytes of a number
pub big_number-big_bytes : (n x : ℕ) → x < 256 ^ n → big_number n (big_bytes n x) ≡ x
big_number-big_bytes n x small =
    ap (big_from 0 n) (sym (append-nil (bytes_high_first n x))) ∙ big_from-bytes n x [] ∙ mod-eq_of_lt small

-- the bytes of the number in bytes
pub big_bytes-big_number : (n : ℕ) (bytes : List ℕ) → length bytes ≡ n → IsBytes bytes → big_bytes n (big_number n bytes) ≡ bytes
big_bytes-big_number n bytes len fits =
    big_number-injective n (big_bytes n (big_number n bytes)) bytes (length-bytes_high_first n (big_number n bytes)) len (IsBytes-big_bytes n (big_number n bytes)) fits
    (big_number-big_bytes n (big_number n bytes) (big_from-lt 0 n bytes fits))

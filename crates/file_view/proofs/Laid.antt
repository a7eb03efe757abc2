-- Where fields and entries stand that are read by their places.
use Rattle.std.proofs.Common.{◌≡◌, ◌∙◌, ℕ, zero, suc, ◌+◌, ◌*◌, ◌<◌, ◌^◌, List, [], ◌∷◌, ◌++◌, length, get_or, take, drop, refl, ap, arith, All, append_assoc, length-append}
use Rattle.std.proofs.Math.Nat.{suc-mul}
use Rattle.std.proofs.lemmas.List.{take_at, drop_at}
use Rattle.byteorder.specs.Endian.{big_number, big_bytes}
use Rattle.byteorder.specs.Numbers.{length-bytes_high_first}
use Rattle.card_layout.specs.Images.{bytes_at, number_at}
use Rattle.card_layout.specs.Fields.{joined}
use Rattle.card_layout.proofs.Numbers.{big_number-big_bytes}

-- the number that stands behind some bytes
pub number_behind : (pre tail : List ℕ) (w n : ℕ) → n < 256 ^ w → number_at (pre ++ (big_bytes w n ++ tail)) (length pre) w ≡ n
number_behind pre tail w n low =
    ap (λ (l : List ℕ). big_number w (take w l)) (drop_at pre (big_bytes w n ++ tail) (length pre) refl)
    ∙ ap (big_number w) (take_at (big_bytes w n) tail w (length-bytes_high_first w n)) ∙ big_number-big_bytes w n low

-- entries of one size, as long as they are many
pub joined_length : (size : ℕ) (es : List (List ℕ)) → All (λ e. length e ≡ size) es → length (joined es) ≡ length es * size
joined_length size [] all = omega arith
joined_length size (e ∷ es) all =
    let first : length e ≡ size = all 0 e (omega arith) in
    let rest : length (joined es) ≡ length es * size = joined_length size es (λ k d low. all (suc k) d (omega (arith, low))) in
    omega (arith, length-append e (joined es), first, rest, suc-mul (length es) size)

-- what stands behind a front
pub skip : (front rest : List ℕ) (p : ℕ) → drop (length front + p) (front ++ rest) ≡ drop p rest
skip [] rest p = ap (λ (k : ℕ). drop k rest) (let z : 0 + p ≡ p = omega arith in z)
skip (x ∷ front) rest p = ap (λ (k : ℕ). drop k (x ∷ front ++ rest)) (let z : length (x ∷ front) + p ≡ suc (length front + p) = omega arith in z) ∙ skip front rest p

-- an entry among some of one size
pub entry_at : (size : ℕ) (entries : List (List ℕ)) (rest : List ℕ) (i : ℕ) → All (λ e. length e ≡ size) entries → i < length entries
    → bytes_at (joined entries ++ rest) (size * i) size ≡ get_or entries i []
entry_at size [] rest i sized low = absurd (omega (arith, low))
entry_at size (e ∷ entries) rest zero sized low =
    let one : length e ≡ size = sized 0 e (omega arith) in
    ap (λ (l : List ℕ). bytes_at l (size * 0) size) (append_assoc e (joined entries) rest)
    ∙ ap (λ (p : ℕ). bytes_at (e ++ (joined entries ++ rest)) p size) (let z : size * 0 ≡ 0 = grind arith in z)
    ∙ take_at e (joined entries ++ rest) size one
entry_at size (e ∷ entries) rest (suc i) sized low =
    let one : length e ≡ size = sized 0 e (omega arith) in
    let more : size * suc i ≡ length e + size * i = grind (arith, one) in
    ap (λ (l : List ℕ). bytes_at l (size * suc i) size) (append_assoc e (joined entries) rest)
    ∙ ap (λ (p : ℕ). bytes_at (e ++ (joined entries ++ rest)) p size) more
    ∙ ap (take size) (skip e (joined entries ++ rest) (size * i))
    ∙ entry_at size entries rest i (λ k d below. sized (suc k) d (omega (arith, below))) (omega (arith, low))

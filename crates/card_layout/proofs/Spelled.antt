-- The numbers that parts of images spell.
use Rattle.std.proofs.Common.{◌≡◌, ℕ, zero, suc, ◌+◌, ◌*◌, ◌^◌, ◌<◌, ◌≤◌, ◌-◌, List, ◌++◌, length, drop, replicate, refl, sym, ◌∙◌, ap, arith}
use Rattle.std.specs.Prelude.{slice_index}
use Rattle.std.specs.Int.{from_be_bytes, to_be_bytes, w32}
use Rattle.std.proofs.lemmas.List.{get_or-take, get_or-drop}
use Rattle.byteorder.specs.Endian.{big_number, big_bytes}
use Rattle.byteorder.specs.Numbers.{length-bytes_high_first}
use Rattle.card_layout.specs.Images.{bytes_at, put, number_at, SameOutside}
use Rattle.card_layout.proofs.Images.{part_before, part_after, part_put, part_in}
use Rattle.card_layout.proofs.Numbers.{big_number-big_bytes}

-- equal parts spell equal numbers
pub number_same : (x c : List ℕ) (a n : ℕ) → bytes_at c a n ≡ bytes_at x a n → number_at c a n ≡ number_at x a n
number_same x c a n same = ap (big_number n) same

-- a part that ends before the range in which two images differ, or begins behind it
pub number_before : (p len a n : ℕ) (x c : List ℕ) → SameOutside p len x c → a + n ≤ p → number_at c a n ≡ number_at x a n
number_before p len a n x c same le = number_same x c a n (part_before p len a n x c same le)

pub number_after : (p len a n : ℕ) (x c : List ℕ) → SameOutside p len x c → p + len ≤ a → number_at c a n ≡ number_at x a n
number_after p len a n x c same le = number_same x c a n (part_after p len a n x c same le)

-- a number that was written
pub number_put : (p n v : ℕ) (x : List ℕ) → p + n ≤ length x → v < 256 ^ n → number_at (put p (big_bytes n v) x) p n ≡ v
number_put p n v x le small =
    let len : length (big_bytes n v) ≡ n = length-bytes_high_first n v in
    ap (λ (m : ℕ). big_number n (bytes_at (put p (big_bytes n v) x) p m)) (sym len)
    ∙ ap (big_number n) (part_put p (big_bytes n v) x (omega (arith, le, len))) ∙ big_number-big_bytes n v small

-- the number in a part of a part
pub number_within : (x : List ℕ) (p w q n : ℕ) → q + n ≤ w → number_at (bytes_at x p w) q n ≡ number_at x (p + q) n
number_within x p w q n le = ap (big_number n) (part_in x p w q n le)

-- the number in two bytes, by the two
pub number_two_bytes : (x : List ℕ) (p : ℕ) → number_at x p 2 ≡ slice_index x p * 256 + slice_index x (p + 1)
number_two_bytes x p =
    let high : slice_index (bytes_at x p 2) 0 ≡ slice_index x p = get_or-take 2 (drop p x) 0 0 (omega arith) ∙ get_or-drop p x 0 0 ∙ ap (slice_index x) (omega arith) in
    let low : slice_index (bytes_at x p 2) 1 ≡ slice_index x (p + 1) = get_or-take 2 (drop p x) 1 0 (omega arith) ∙ get_or-drop p x 1 0 in
    omega (arith, high, low)

-- bytes that are filled up with zeros in front to four
pub number_filled : (n : ℕ) (bytes : List ℕ) → n ≤ 4 → from_be_bytes w32 (replicate (4 - n) 0 ++ bytes) ≡ big_number n bytes
number_filled zero bytes few = nothing bytes
  where
    nothing : (bytes : List ℕ) → from_be_bytes w32 (replicate 4 0 ++ bytes) ≡ 0
    nothing bytes = omega arith
number_filled (suc zero) bytes few = omega arith
number_filled (suc (suc zero)) bytes few = omega arith
number_filled (suc (suc (suc zero))) bytes few = omega arith
number_filled (suc (suc (suc (suc zero)))) bytes few = omega arith
number_filled (suc (suc (suc (suc (suc n))))) bytes few = absurd (omega (arith, few))

-- the last bytes of the four of a number are its bytes
pub bytes_filled : (n v : ℕ) → n ≤ 4 → drop (4 - n) (to_be_bytes w32 v) ≡ big_bytes n v
bytes_filled zero v few = refl
bytes_filled (suc zero) v few = refl
bytes_filled (suc (suc zero)) v few = refl
bytes_filled (suc (suc (suc zero))) v few = refl
bytes_filled (suc (suc (suc (suc zero)))) v few = refl
bytes_filled (suc (suc (suc (suc (suc n))))) v few = absurd (omega (arith, few))

-- Numbers in bytes, read back.
use Rattle.std.proofs.Common.{◌≡◌, ℕ, ◌+◌, ◌*◌, ◌/◌, ◌%◌, ◌<◌, ◌≤◌, ◌∙◌, ap, arith}
use Rattle.card_model.specs.Bytes.{number, two_bytes, four_bytes, decimal_bytes, decimal}

pub number_two : (n : ℕ) → number (two_bytes n) ≡ n
number_two n = omega arith

pub number_four : (n : ℕ) → number (four_bytes n) ≡ n
number_four n =
    let a = n / 16777216 in
    let e1 : n / 65536 ≡ 256 * a + n / 65536 % 256 = omega arith in
    let e2 : n / 256 ≡ 256 * (n / 65536) + n / 256 % 256 = omega arith in
    omega (arith, e1, e2)

pub digits : (v a b c d : ℕ) → a < 10 → b < 10 → c < 10 → d < 10 → v ≡ 4096 * a + 256 * b + 16 * c + d → decimal v ≡ 1000 * a + 100 * b + 10 * c + d
digits v a b c d a_low b_low c_low d_low is =
    let e1 : v / 4096 ≡ a = omega arith in
    let e2 : v / 256 ≡ 16 * a + b = omega arith in
    let e3 : v / 16 ≡ 256 * a + 16 * b + c = omega arith in
    let f1 : v / 4096 % 16 ≡ a = ap (λ (n : ℕ). n % 16) e1 ∙ omega (arith, a_low) in
    let f2 : v / 256 % 16 ≡ b = ap (λ (n : ℕ). n % 16) e2 ∙ omega (arith, b_low) in
    let f3 : v / 16 % 16 ≡ c = ap (λ (n : ℕ). n % 16) e3 ∙ omega (arith, c_low) in
    let f4 : v % 16 ≡ d = omega arith in
    omega (arith, f1, f2, f3, f4)

pub decimal_same : (n : ℕ) → n ≤ 9999 → decimal (number (decimal_bytes n)) ≡ n
decimal_same n most =
    let h_low : n / 100 < 100 = omega arith in
    let l_low : n % 100 < 100 = omega arith in
    digits (number (decimal_bytes n)) (n / 100 / 10) (n / 100 % 10) (n % 100 / 10) (n % 100 % 10) (omega (arith, h_low)) (omega arith) (omega (arith, l_low)) (omega arith) (omega arith) ∙ omega arith

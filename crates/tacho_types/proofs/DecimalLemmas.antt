-- Two bytes of decimal digits and the number that they spell.
use Rattle.std.proofs.Common.{◌≡◌, ℕ, ◌+◌, ◌*◌, ◌/◌, ◌%◌, ◌≤◌, Bool, true, false, cond, List, [], ◌∷◌, length, get_or, Option, Some, None, Result, Ok, Err, refl, sym, ◌∙◌, ap, arith, ltb}
use Rattle.std.proofs.lemmas.Bool.{ltb-false, le-ltb}
use Rattle.std.specs.Prelude.{position, nat_lt}
use Rattle.tacho_types.specs.declared.decimal.Bcd2.{Bcd2}
use Rattle.tacho_types.specs.declared.decimal.BadValue.{BadValue}
use Rattle.tacho_types.specs.Decimal.{bcd2_bytes, bcd2_of, digits_byte}

abbrev pub first_bad : List ℕ → Option ℕ
first_bad halves = position (λ half. nat_lt 9 half) halves

abbrev pub halves_of : List ℕ → List ℕ
halves_of b = get_or b 0 0 / 16 ∷ get_or b 0 0 % 16 ∷ get_or b 1 0 / 16 ∷ get_or b 1 0 % 16 ∷ []

-- a half-byte that is no digit
pub bcd2_of-bad : (b : List ℕ) (place : ℕ) → length b ≡ 2 → first_bad (halves_of b) ≡ Some place → bcd2_of b ≡ Err (record { 0 = place })
bcd2_of-bad [] place len e = absurd (omega arith)
bcd2_of-bad (x ∷ []) place len e = absurd (omega arith)
bcd2_of-bad (x ∷ y ∷ []) place len e = rw e refl
bcd2_of-bad (x ∷ y ∷ z ∷ b) place len e = absurd (omega arith)

-- digits alone
pub bcd2_of-good : (b : List ℕ) → length b ≡ 2 → first_bad (halves_of b) ≡ None
    → bcd2_of b ≡ Ok (record { 0 = 1000 * (get_or b 0 0 / 16) + 100 * (get_or b 0 0 % 16) + 10 * (get_or b 1 0 / 16) + get_or b 1 0 % 16 })
bcd2_of-good [] len e = absurd (omega arith)
bcd2_of-good (x ∷ []) len e = absurd (omega arith)
bcd2_of-good (x ∷ y ∷ []) len e =
    let v : Bcd2 = record { 0 = 10 * (10 * (10 * (10 * 0 + x / 16) + x % 16) + y / 16) + y % 16 } in
    let w : Bcd2 = record { 0 = 1000 * (x / 16) + 100 * (x % 16) + 10 * (y / 16) + y % 16 } in
    let n : v.0 ≡ w.0 = omega arith in
    let same : v ≡ w = ap (λ (k : ℕ). let r : Bcd2 = record { 0 = k } in r) n in
    rw e (ap (λ (k : Bcd2). let r : Result Bcd2 BadValue = Ok k in r) same)
bcd2_of-good (x ∷ y ∷ z ∷ b) len e = absurd (omega arith)

abbrev chosen : Bool → Bool → Bool → Bool → Option ℕ
chosen p q r s = cond p (Some 0) (cond q (Some 1) (cond r (Some 2) (cond s (Some 3) None)))

tests : (p q r s : Bool) → chosen p q r s ≡ None → (p ≡ false) × (q ≡ false) × (r ≡ false) × (s ≡ false)
tests true q r s e = absurd cc
tests false true r s e = absurd cc
tests false false true s e = absurd cc
tests false false false true e = absurd cc
tests false false false false e = (refl, refl, refl, refl)

by_tests : (p q r s : Bool) (a b c d : ℕ) → ltb 9 a ≡ p → ltb 9 b ≡ q → ltb 9 c ≡ r → ltb 9 d ≡ s
    → first_bad (a ∷ b ∷ c ∷ d ∷ []) ≡ chosen p q r s
by_tests true q r s a b c d ea eb ec ed = rw ea refl
by_tests false true r s a b c d ea eb ec ed = rw (ea, eb) refl
by_tests false false true s a b c d ea eb ec ed = rw (ea, eb, ec) refl
by_tests false false false true a b c d ea eb ec ed = rw (ea, eb, ec, ed) refl
by_tests false false false false a b c d ea eb ec ed = rw (ea, eb, ec, ed) refl

-- half-bytes among which none is bad are digits
pub first_bad-None : (a b c d : ℕ) → first_bad (a ∷ b ∷ c ∷ d ∷ []) ≡ None → (a ≤ 9) × (b ≤ 9) × (c ≤ 9) × (d ≤ 9)
first_bad-None a b c d e =
    let all = tests (ltb 9 a) (ltb 9 b) (ltb 9 c) (ltb 9 d) (sym (by_tests (ltb 9 a) (ltb 9 b) (ltb 9 c) (ltb 9 d) a b c d refl refl refl refl) ∙ e) in
    (ltb-false 9 a all.0, ltb-false 9 b all.1, ltb-false 9 c all.2, ltb-false 9 d all.3)

-- and digits have no bad one among them
pub first_bad-digits : (a b c d : ℕ) → a ≤ 9 → b ≤ 9 → c ≤ 9 → d ≤ 9 → first_bad (a ∷ b ∷ c ∷ d ∷ []) ≡ None
first_bad-digits a b c d ha hb hc hd = by_tests false false false false a b c d (le-ltb 9 a ha) (le-ltb 9 b hb) (le-ltb 9 c hc) (le-ltb 9 d hd)

-- the bytes of the number that digits spell
pub bcd2_bytes-spelled : (b : List ℕ) → length b ≡ 2 → first_bad (halves_of b) ≡ None
    → bcd2_bytes (record { 0 = 1000 * (get_or b 0 0 / 16) + 100 * (get_or b 0 0 % 16) + 10 * (get_or b 1 0 / 16) + get_or b 1 0 % 16 }) ≡ b
bcd2_bytes-spelled [] len e = absurd (omega arith)
bcd2_bytes-spelled (x ∷ []) len e = absurd (omega arith)
bcd2_bytes-spelled (x ∷ y ∷ []) len e =
    let digits = first_bad-None (x / 16) (x % 16) (y / 16) (y % 16) e in
    let v : ℕ = 1000 * (x / 16) + 100 * (x % 16) + 10 * (y / 16) + y % 16 in
    let high : v / 100 ≡ 10 * (x / 16) + x % 16 = omega (arith, digits) in
    let low : v % 100 ≡ 10 * (y / 16) + y % 16 = omega (arith, digits) in
    let first : digits_byte (v / 100) ≡ x = rw high (omega (arith, digits)) in
    let second : digits_byte (v % 100) ≡ y = rw low (omega (arith, digits)) in
    rw (first, second) refl
bcd2_bytes-spelled (x ∷ y ∷ z ∷ b) len e = absurd (omega arith)

-- the number in the bytes of a number
pub bcd2_of-bytes : (v : Bcd2) → v.0 ≤ 9999 → bcd2_of (bcd2_bytes v) ≡ Ok v
bcd2_of-bytes v small =
    let n : ℕ = v.0 in
    let x : ℕ = digits_byte (n / 100) in
    let y : ℕ = digits_byte (n % 100) in
    let good = first_bad-digits (x / 16) (x % 16) (y / 16) (y % 16) (omega arith) (omega arith) (omega arith) (omega arith) in
    let sum : 1000 * (x / 16) + 100 * (x % 16) + 10 * (y / 16) + y % 16 ≡ n = omega arith in
    bcd2_of-good (x ∷ y ∷ []) refl good ∙ ap (λ (k : ℕ). let r : Result Bcd2 BadValue = Ok (record { 0 = k }) in r) sum

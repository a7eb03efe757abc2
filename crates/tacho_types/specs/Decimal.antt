-- Two bytes of binary coded decimal (Appendix 1, BCDString).
use Rattle.std.specs.Prelude.{ℕ, ◌+◌, ◌*◌, ◌/◌, ◌%◌, Option, Some, None, Result, Ok, Err, List, [], ◌∷◌, nat_lt}
use Rattle.std.specs.Prelude.{position}
use Rattle.tacho_types.specs.declared.decimal.Bcd2.{Bcd2}
use Rattle.tacho_types.specs.declared.decimal.BadValue.{BadValue}

-- the half-bytes, the high one of each byte first
abbrev pub half_bytes : List ℕ → List ℕ
half_bytes [] = []
half_bytes (b ∷ bytes) = b / 16 ∷ b % 16 ∷ half_bytes bytes

-- the number that decimal digits spell behind those that spell n
abbrev pub spelled : ℕ → List ℕ → ℕ
spelled n [] = n
spelled n (digit ∷ digits) = spelled (10 * n + digit) digits

-- the place of the first half-byte that is no decimal digit
abbrev pub first_bad_half : List ℕ → Option ℕ
first_bad_half bytes = position (λ half. nat_lt 9 half) (half_bytes bytes)

-- the number, or the place of the first half-byte that is no digit
abbrev pub bcd2_of : List ℕ → Result Bcd2 BadValue
bcd2_of bytes = judged (first_bad_half bytes)
  where
    judged : Option ℕ → Result Bcd2 BadValue
    judged None = Ok (record { 0 = spelled 0 (half_bytes bytes) })
    judged (Some place) = Err (record { 0 = place })

-- two decimal digits in a byte
abbrev pub digits_byte : ℕ → ℕ
digits_byte n = n / 10 * 16 + n % 10

-- a number below 10000 in two bytes of decimal digits
abbrev pub bcd2_bytes : Bcd2 → List ℕ
bcd2_bytes v = digits_byte (v.0 / 100) ∷ digits_byte (v.0 % 100) ∷ []

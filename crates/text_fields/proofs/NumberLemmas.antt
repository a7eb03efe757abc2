-- Digits and the numbers that they spell.
use Rattle.std.proofs.Common.{◌≡◌, ◌∙◌, ℕ, suc, zero, ◌+◌, ◌-◌, ◌*◌, ◌<◌, ◌≤◌, ◌^◌, List, length, take, get_or, Option, Some, None, refl, ap, sym, arith}
use Rattle.std.specs.Prelude.{IfSome, IfNone}
use Rattle.std.specs.Char.{digit_value}
use Rattle.std.specs.Fmt.{decimal}
use Rattle.std.specs.Str.Parse.{AllDigits, digits_value}
use Rattle.std.proofs.lemmas.Fmt.{digits_decimal, digits_value-decimal, decimal_nonempty, decimal_digit, first_decimal, decimal-digits_value}
use Rattle.std.proofs.lemmas.Int.Digits.{digits_more, digits_value_more}
use Rattle.std.proofs.lemmas.Str.{digit_value_digit}
use Rattle.std.proofs.lemmas.Str.Parse.{IsNumeralModel, numerals_by_value, tells_digits, digit_at, digits_value-take-le}

own : IsNumeralModel (AllDigits 10) (digits_value 10)
own = numerals_by_value (AllDigits 10) tells_digits

-- what is spelled has digits, and their value
pub spelled : (n : ℕ) (digits : List ℕ) → n < 2 ^ 32 → digits ≡ decimal n → AllDigits 10 digits × (digits_value 10 digits ≡ n)
spelled n digits small is =
    let fits : n < 2 ^ 64 = omega (arith, small) in rw is (digits_decimal own n fits, digits_value-decimal own n fits)

pub no_digits : (n : ℕ) (digits : List ℕ) → n < 2 ^ 32 → digits ≡ decimal n → length digits ≡ 0 → ⊥
no_digits n digits small is none =
    let some = decimal_nonempty n (omega (arith, small)) in let e = ap (λ (ds : List ℕ). length ds) is in omega (arith, some, e, none)

-- a number has no zero at its head but 0
pub leading_zero : (n : ℕ) (digits : List ℕ) → n < 2 ^ 32 → digits ≡ decimal n → get_or digits 0 0 ≡ 48 → 1 < length digits → ⊥
leading_zero zero digits small is first more =
    let e : length digits ≡ 1 = ap (λ (ds : List ℕ). length ds) (is ∙ decimal_digit 0 (omega arith)) in omega (arith, e, more)
leading_zero (suc n) digits small is first more =
    let above = first_decimal (suc n) (omega arith) (omega (arith, small)) in
    let e = ap (λ (ds : List ℕ). get_or ds 0 0) is in omega (arith, above, e, first)

-- other digits spell their value
pub spells : (digits : List ℕ) (n : ℕ) → AllDigits 10 digits → digits_value 10 digits ≡ n → n < 2 ^ 32 → 0 < length digits → (get_or digits 0 0 ≡ 48 → length digits ≡ 1) → digits ≡ decimal n
spells digits n all is small some first =
    sym (decimal-digits_value own digits all some first (omega (arith, is, small))) ∙ ap decimal is

-- so is what was read of them
pub number-found : (digits : List ℕ) (read : Option ℕ) → IfSome read (λ n. AllDigits 10 digits × (digits_value 10 digits ≡ n) × (n < 2 ^ 32)) → 0 < length digits → (get_or digits 0 0 ≡ 48 → length digits ≡ 1) → IfSome read (λ n. digits ≡ decimal n)
number-found digits None found some first = tt
number-found digits (Some n) found some first = spells digits n found.0 found.1 found.2 some first

pub number-none : (digits : List ℕ) (read : Option ℕ) → IfNone read (AllDigits 10 digits → digits_value 10 digits < 2 ^ 32 → ⊥) → IfNone read ((n : ℕ) → n < 2 ^ 32 → digits ≡ decimal n → ⊥)
number-none digits None none = λ n small is. let s = spelled n digits small is in none s.0 (omega (arith, s.1, small))
number-none digits (Some n) none = tt

-- one more digit
pub one-more : (digits : List ℕ) (i digit value : ℕ) → i < length digits → AllDigits 10 (take i digits) → digits_value 10 (take i digits) ≡ value → get_or digits i 0 ≡ digit → 48 ≤ digit → digit ≤ 57 → AllDigits 10 (take (i + 1) digits) × (digits_value 10 (take (i + 1) digits) ≡ value * 10 + (digit - 48))
one-more digits i digit value inside all is at low high =
    let d = digit_value_digit digit (low, high) in
    let small : digit_value digit < 10 = omega (arith, d, high) in
    let e : digit_value digit ≡ digit - 48 = omega (arith, d) in
    (digits_more 10 digits i inside all (rw at small), digits_value_more 10 digits i inside ∙ rw (is, at, e) refl)

-- a byte that is no digit
pub other_byte : (digits : List ℕ) (i : ℕ) → AllDigits 10 digits → i < length digits → (48 ≤ get_or digits i 0) × (get_or digits i 0 ≤ 57)
other_byte digits i all inside = digit_at digits i all inside

-- with more digits it is no smaller
pub no_smaller : (digits : List ℕ) (i : ℕ) → digits_value 10 (take i digits) ≤ digits_value 10 digits
no_smaller digits i = digits_value-take-le 10 digits i (omega arith)

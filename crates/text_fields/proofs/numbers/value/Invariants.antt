use Rattle.std.proofs.Common.{◌≡◌, take}
use Rattle.std.specs.Str.Parse.{AllDigits, digits_value}
use Rattle.text_fields.proofs.numbers.value.Given as goal

-- the bytes so far are digits, and the value is theirs
abbrev pub invariant-loop-digit : goal.invariant-loop-digit
invariant-loop-digit l = AllDigits 10 (take l.digit-index l.digits) × (digits_value 10 (take l.digit-index l.digits) ≡ l.value)

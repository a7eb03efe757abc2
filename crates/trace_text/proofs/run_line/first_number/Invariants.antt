use Rattle.std.proofs.Common.{◌≡◌, take}
use Rattle.std.specs.Str.Parse.{AllDigits, digits_value}
use Rattle.trace_text.proofs.run_line.first_number.Given as goal

-- the bytes so far are digits, and the value is theirs
abbrev pub invariant-loop-i : goal.invariant-loop-i
invariant-loop-i l = AllDigits 10 (take l.i l.text) × (digits_value 10 (take l.i l.text) ≡ l.value)

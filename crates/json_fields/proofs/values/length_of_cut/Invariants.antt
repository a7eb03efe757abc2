use Rattle.std.proofs.Common.{◌≡◌, ◌≤◌, take}
use Rattle.json_fields.specs.Texts.{cut}
use Rattle.json_fields.proofs.values.length_of_cut.Given as goal

-- the bytes so far end there
abbrev pub invariant-loop-i : goal.invariant-loop-i
invariant-loop-i l = (l.end ≤ l.i) × (cut (take l.i l.bytes) ≡ take l.end l.bytes)

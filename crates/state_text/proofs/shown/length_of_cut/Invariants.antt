use Rattle.std.proofs.Common.{◌≡◌, ◌≤◌, take}
use Rattle.state_text.specs.Shown.{cut}
use Rattle.state_text.proofs.shown.length_of_cut.Given as goal

-- the bytes so far end there
abbrev pub invariant-loop-i : goal.invariant-loop-i
invariant-loop-i l = (l.end ≤ l.i) × (cut (take l.i l.bytes) ≡ take l.end l.bytes)

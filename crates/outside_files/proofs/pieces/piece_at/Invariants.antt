use Rattle.std.proofs.Common.{◌≡◌, ◌+◌, take, length, []}
use Rattle.std.specs.List.{sum}
use Rattle.outside_files.proofs.pieces.piece_at.Given as goal

-- the pieces so far, and the rest; no piece was the last one
abbrev pub invariant-loop-i : goal.invariant-loop-i
invariant-loop-i l = (sum (take l.i l.sizes) + l.rest ≡ l.place) × (l.i ≡ length l.sizes → l.sizes ≡ [])

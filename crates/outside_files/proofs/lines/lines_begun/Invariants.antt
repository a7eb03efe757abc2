use Rattle.std.proofs.Common.{◌≡◌, ◌+◌, ◌≤◌, drop}
use Rattle.outside_files.specs.Lines.{lines_begun}
use Rattle.outside_files.proofs.lines.lines_begun.Given as goal

-- the lines so far, and those of the rest
abbrev pub invariant-loop-byte : goal.invariant-loop-byte
invariant-loop-byte l = (l.count ≤ l.byte-index)
    × (l.count + lines_begun l.begins (drop l.byte-index l.piece) ≡ lines_begun l.fn.begins l.piece)

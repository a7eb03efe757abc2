use Rattle.std.proofs.Common.{◌≡◌, None, take}
use Rattle.file_calls.specs.Asking.{shown_at}
use Rattle.file_calls.proofs.At.{told}
use Rattle.file_calls.proofs.unit.shown_on.Given as goal

-- the lines so far have it not
abbrev pub invariant-loop-line : goal.invariant-loop-line
invariant-loop-line l = shown_at (told (take l.line-index l.lines)) l.minute ≡ None

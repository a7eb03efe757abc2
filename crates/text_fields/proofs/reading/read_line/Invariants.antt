use Rattle.std.proofs.Common.{◌≡◌, length}
use Rattle.text_fields.specs.Lines.{line_bytes}
use Rattle.text_fields.proofs.Spelling.{with_read}
use Rattle.text_fields.proofs.reading.read_line.Given as goal

abbrev pub invariant-loop-rest : goal.invariant-loop-rest
invariant-loop-rest l = line_bytes l.line ≡ with_read l.bytes.items (line_bytes l.rest)

abbrev pub decreases-loop-rest : goal.decreases-loop-rest
decreases-loop-rest l = length l.rest

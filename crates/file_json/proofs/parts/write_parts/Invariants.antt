use Rattle.std.proofs.Common.{drop}
use Rattle.file_json.specs.Parts.{parts_then}
use Rattle.file_json.proofs.Left.{AreLeft}
use Rattle.file_json.proofs.parts.write_parts.Given as goal

-- what is written with what the parts behind make is the message
abbrev pub invariant-loop-part : goal.invariant-loop-part
invariant-loop-part l = AreLeft (drop l.part-index l.parts) l.rest l.fn.writer l.writer (parts_then l.fn.parts l.fn.bytes)

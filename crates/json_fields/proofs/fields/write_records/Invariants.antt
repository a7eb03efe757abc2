use Rattle.std.proofs.Common.{◌++◌}
use Rattle.json.specs.Tree.{json_tokens}
use Rattle.json_fields.specs.Shown.{records_shown}
use Rattle.json_fields.proofs.Records.{AreSoFar}
use Rattle.json_fields.proofs.fields.write_records.Given as goal

-- what is written with what the records behind make is the array
abbrev pub invariant-loop-left : goal.invariant-loop-left
invariant-loop-left l = AreSoFar l.left l.fields l.rest l.writer (l.fn.writer ++ json_tokens (records_shown l.fn.count l.fn.fields l.fn.bytes))

abbrev pub decreases-loop-left : goal.decreases-loop-left
decreases-loop-left l = l.left

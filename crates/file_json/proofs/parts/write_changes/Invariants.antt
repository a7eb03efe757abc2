use Rattle.std.proofs.Common.{◌++◌}
use Rattle.json.specs.Json.{array}
use Rattle.json.specs.Tree.{json_tokens}
use Rattle.file_json.specs.Parts.{changes_shown}
use Rattle.file_json.proofs.Left.{AreChanges}
use Rattle.file_json.proofs.parts.write_changes.Given as goal

-- what is written with the changes behind is the array
abbrev pub invariant-loop-left : goal.invariant-loop-left
invariant-loop-left l = AreChanges l.fn.on_card l.left l.rest l.writer (l.fn.writer ++ json_tokens (array (changes_shown l.fn.on_card l.fn.count l.fn.bytes)))

abbrev pub decreases-loop-left : goal.decreases-loop-left
decreases-loop-left l = l.left

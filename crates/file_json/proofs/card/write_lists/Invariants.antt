use Rattle.std.proofs.Common.{◌++◌}
use Rattle.json.specs.Json.{array}
use Rattle.json.specs.Tree.{json_tokens}
use Rattle.file_json.specs.Cards.{lists_shown}
use Rattle.file_json.proofs.Left.{AreLists}
use Rattle.file_json.proofs.card.write_lists.Given as goal

-- what is written with the lists behind is the array
abbrev pub invariant-loop-left : goal.invariant-loop-left
invariant-loop-left l = AreLists l.left l.fn.len l.fn.sets.kind l.rest l.writer (l.fn.writer ++ json_tokens (array (lists_shown l.fn.sets.count l.fn.len l.fn.sets.kind l.fn.value)))

abbrev pub decreases-loop-left : goal.decreases-loop-left
decreases-loop-left l = l.left

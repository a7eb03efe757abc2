use Rattle.std.proofs.Common.{◌≡◌, ◌++◌}
use Rattle.json.specs.Json.{array}
use Rattle.json.specs.Tree.{items_tokens, json_tokens}
use Rattle.file_json.specs.Days.{days_shown}
use Rattle.file_json.proofs.days.write_days_of.Given as goal

-- what is written with the records behind is the array
abbrev pub invariant-days : goal.invariant-days
invariant-days l = l.writer ++ items_tokens (days_shown l.left l.far l.rest) ≡ l.fn.writer ++ json_tokens (array (days_shown l.fn.most l.fn.far l.fn.circle))

abbrev pub decreases-days : goal.decreases-days
decreases-days l = l.left

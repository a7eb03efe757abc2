use Rattle.std.proofs.Common.{◌≡◌, ◌++◌, drop}
use Rattle.json.specs.Json.{array}
use Rattle.json.specs.Tree.{items_tokens, json_tokens}
use Rattle.json_fields.specs.Texts.{numbers_shown}
use Rattle.json_fields.proofs.values.write_numbers.Given as goal

-- what is written with the numbers behind is the array
abbrev pub invariant-loop-byte : goal.invariant-loop-byte
invariant-loop-byte l = l.writer ++ items_tokens (numbers_shown (drop l.byte-index l.bytes)) ≡ l.fn.writer ++ json_tokens (array (numbers_shown l.fn.bytes))

use Rattle.std.proofs.Common.{◌∙◌, ◌++◌, rules}
use Rattle.json.specs.Json.{array}
use Rattle.json.specs.Tree.{json_tokens}
use Rattle.file_json.specs.Parts.{changes_shown}
use Rattle.file_json.proofs.Left.{one_change_more, no_change_left}
use Rattle.file_json.proofs.parts.write_changes.Goals as goal

pub loop-left-preserved : goal.loop-left-preserved
loop-left-preserved c =
    one_change_more c.args.on_card c.loop-left.left c.loop-left.rest.now c.split_at.result.0.now c.split_at.result.1.now c.loop-left.writer c.write_change.new.writer
    (c.args.writer.now ++ json_tokens (array (changes_shown c.args.on_card c.args.count c.args.bytes.now)))
    (search rules) c.split_at.ensures.front c.split_at.ensures.back c.loop-left.invariant (c.in_ok-write_change.ensures ∙ search rules)

pub returns : goal.returns
returns c =
    c.in_ok-end_array.ensures
    ∙ no_change_left c.args.on_card c.loop-left.left c.loop-left.rest.now c.loop-left.writer (c.args.writer.now ++ json_tokens (array (changes_shown c.args.on_card c.args.count c.args.bytes.now))) (search rules) c.loop-left.invariant

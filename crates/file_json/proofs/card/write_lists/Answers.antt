use Rattle.std.proofs.Common.{◌∙◌, ◌++◌, rules}
use Rattle.json.specs.Json.{array}
use Rattle.json.specs.Tree.{json_tokens}
use Rattle.file_json.specs.Cards.{lists_shown}
use Rattle.file_view.proofs.Filing.{list_there}
use Rattle.file_json.proofs.Left.{one_list_more, no_list_left}
use Rattle.file_json.proofs.card.write_lists.Goals as goal

pub split_at-requires : goal.split_at-requires
split_at-requires c = list_there c.loop-left.left c.args.len c.loop-left.rest.now (search rules) c.loop-left.invariant.sized

pub loop-left-preserved : goal.loop-left-preserved
loop-left-preserved c =
    one_list_more c.loop-left.left c.args.len c.args.sets.kind c.loop-left.rest.now c.split_at.result.0.now c.split_at.result.1.now c.loop-left.writer c.write_list.new.writer
    (c.args.writer.now ++ json_tokens (array (lists_shown c.args.sets.count c.args.len c.args.sets.kind c.args.value.now)))
    (search rules) c.split_at.ensures.front c.split_at.ensures.back c.loop-left.invariant c.in_ok-write_list.ensures

pub returns : goal.returns
returns c =
    c.in_ok-end_array.ensures
    ∙ no_list_left c.loop-left.left c.args.len c.args.sets.kind c.loop-left.rest.now c.loop-left.writer (c.args.writer.now ++ json_tokens (array (lists_shown c.args.sets.count c.args.len c.args.sets.kind c.args.value.now)))
    (search rules) c.loop-left.invariant

use Rattle.std.proofs.Common.{◌∙◌, ◌++◌, rules}
use Rattle.json.specs.Tree.{json_tokens}
use Rattle.json_fields.specs.Shown.{records_shown}
use Rattle.json_fields.proofs.Records.{one_step, none_left}
use Rattle.json_fields.proofs.fields.write_records.Goals as goal

pub loop-left-preserved : goal.loop-left-preserved
loop-left-preserved c =
    one_step c.loop-left.left c.args.fields.now c.args.width c.loop-left.rest.now c.split_at.result.0.now c.split_at.result.1.now c.loop-left.writer c.write_entry.new.writer
    (c.args.writer.now ++ json_tokens (records_shown c.args.count c.args.fields.now c.args.bytes.now))
    (search rules) c.requires.width c.split_at.ensures.front c.split_at.ensures.back c.loop-left.invariant c.in_ok-write_entry.ensures

pub returns : goal.returns
returns c =
    c.in_ok-end_array.ensures
    ∙ none_left c.loop-left.left c.args.fields.now c.loop-left.rest.now c.loop-left.writer
    (c.args.writer.now ++ json_tokens (records_shown c.args.count c.args.fields.now c.args.bytes.now))
    (search rules) c.loop-left.invariant

use Rattle.std.proofs.Common.{◌∙◌, ◌≤◌, length, ap, arith, length-drop, zero-add}
use Rattle.file_view.proofs.Placing.{placed_count}
use Rattle.file_json.specs.Units.{messages_told}
use Rattle.file_json.proofs.Making.{unit_whole}
use Rattle.file_json.proofs.Walking.{none_made, message_there, one_message_made, all_messages}
use Rattle.file_json.proofs.pieces.pieces_of_messages.Goals as goal

pub loop-at-init : goal.loop-at-init
loop-at-init c = (
  zero-add (length c.args.b.now),
  λ messages file are.
      none_made c.args.last messages c.args.b.now c.args.all.now c.count_days-days.result c.first_of-skip.result c.in_ok-pieces.pieces.items file are c.count_days-days.ensures c.first_of-skip.ensures c.in_ok-pieces.ensures,
)

pub split_at-requires : goal.split_at-requires
split_at-requires c =
    message_there c.requires.0 c.loop-at.at-index c.args.all.now c.args.b.now c.loop-at.rest.now c.requires.1 c.requires.2 c.loop-at-test.true (c.loop-at.invariant.1 c.requires.0 c.requires.1 c.requires.2).spelled

pub overflow_add-place : goal.overflow_add-place
overflow_add-place c =
    let there = message_there c.requires.0 c.loop-at.at-index c.args.all.now c.args.b.now c.loop-at.rest.now c.requires.1 c.requires.2 c.loop-at-test.true (c.loop-at.invariant.1 c.requires.0 c.requires.1 c.requires.2).spelled in
    omega (arith, c.loop-at.invariant.0, there)

pub loop-at-preserved : goal.loop-at-preserved
loop-at-preserved c = (
  (
      let there = message_there c.requires.0 c.loop-at.at-index c.args.all.now c.args.b.now c.loop-at.rest.now c.requires.1 c.requires.2 c.loop-at-test.true (c.loop-at.invariant.1 c.requires.0 c.requires.1 c.requires.2).spelled in
      omega (arith, c.loop-at.invariant.0, there, ap length c.split_at.ensures.back ∙ length-drop _ c.loop-at.rest.now)
      ),
  λ messages file are.
      one_message_made messages c.loop-at.at-index c.args.all.now c.args.b.now c.loop-at.skip c.skip_behind-skip.result c.loop-at.after c.after_one-after.result c.is_left_out-out.result
      c.loop-at.place c.loop-at.rest.now c.split_at.result.1.now c.loop-at.pieces.items c.add_unless.new.pieces.items (unit_whole (messages_told c.args.last messages))
      file are c.loop-at-test.true (c.loop-at.invariant.1 messages file are) c.is_left_out-out.ensures c.in_ok-add_unless.ensures c.after_one-after.ensures c.skip_behind-skip.ensures c.split_at.ensures.back,
)

pub returns-clause-text : goal.returns-clause-text
returns-clause-text c =
    let past : length c.requires.0 ≤ c.loop-at.at-index = omega (arith, c.loop-at-test.false, placed_count c.args.b.now c.args.all.now c.requires.0 c.requires.2) in
    let all = all_messages c.requires.0 c.args.b.now c.loop-at.at-index c.loop-at.skip c.loop-at.after c.loop-at.place c.loop-at.rest.now c.loop-at.pieces.items c.push.new.self.items (unit_whole (messages_told c.args.last c.requires.0)) past (c.loop-at.invariant.1 c.requires.0 c.requires.1 c.requires.2) c.in_ok-push.ensures.items in
    record { messages = c.requires.0; are = c.requires.1; text = all.0 }

pub returns-clause-each : goal.returns-clause-each
returns-clause-each c =
    let past : length c.requires.0 ≤ c.loop-at.at-index = omega (arith, c.loop-at-test.false, placed_count c.args.b.now c.args.all.now c.requires.0 c.requires.2) in
    (all_messages c.requires.0 c.args.b.now c.loop-at.at-index c.loop-at.skip c.loop-at.after c.loop-at.place c.loop-at.rest.now c.loop-at.pieces.items c.push.new.self.items (unit_whole (messages_told c.args.last c.requires.0)) past (c.loop-at.invariant.1 c.requires.0 c.requires.1 c.requires.2) c.in_ok-push.ensures.items).1

use Rattle.std.proofs.Common.{arith, zero-add, get_or}
use Rattle.file_view.proofs.Placing.{no_message_at}
use Rattle.file_json.specs.Pieces.{days_asked}
use Rattle.file_json.proofs.Walking.{asked_more, none_asked, one_day}
use Rattle.file_json.proofs.pieces.count_days.Goals as goal

pub loop-at-init : goal.loop-at-init
loop-at-init c = (zero-add (days_asked c.args.all.now), omega arith)

pub overflow_add-days : goal.overflow_add-days
overflow_add-days c =
    omega (arith, c.loop-at.invariant.1, c.loop-at-test.true, c.day_in-day.ensures, one_day (get_or c.args.all.now c.loop-at.at-index no_message_at).request)

pub loop-at-preserved : goal.loop-at-preserved
loop-at-preserved c = (
  omega (arith, c.loop-at.invariant.0, c.day_in-day.ensures, asked_more c.args.all.now c.loop-at.at-index c.loop-at-test.true),
  omega (arith, c.loop-at.invariant.1, c.day_in-day.ensures, one_day (get_or c.args.all.now c.loop-at.at-index no_message_at).request),
)

pub returns : goal.returns
returns c = omega (arith, c.loop-at.invariant.0, none_asked c.args.all.now c.loop-at.at-index c.loop-at-test.false)

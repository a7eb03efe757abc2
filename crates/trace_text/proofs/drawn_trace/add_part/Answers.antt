use Rattle.trace_text.proofs.Pushed.{three, part-seconds, part-pushed}
use Rattle.trace_text.proofs.drawn_trace.add_part.Goals as goal

pub returns-clause-items : goal.returns-clause-items
returns-clause-items c =
    part-pushed c.args.x c.next_drawn-stop.result c.next_drawn-drive.result c.next_drawn-pick.result c.next_drawn-stop.ensures c.next_drawn-drive.ensures c.next_drawn-pick.ensures
    c.pick_numbered.result c.args.items.now c.push.new.self c.push-2.new.self c.push-3.new.self c.pick_numbered.ensures
    c.in_ok-push.ensures.ok c.in_ok-push-2.ensures.ok c.in_ok-push-3.ensures.ok

pub returns-clause-seconds : goal.returns-clause-seconds
returns-clause-seconds c =
    part-seconds c.args.x c.next_drawn-stop.result c.next_drawn-drive.result c.next_drawn-pick.result c.next_drawn-stop.ensures c.next_drawn-drive.ensures c.next_drawn-pick.ensures

pub returns-clause-last : goal.returns-clause-last
returns-clause-last c =
    three c.args.x c.next_drawn-stop.result c.next_drawn-drive.result c.next_drawn-pick.result c.next_drawn-stop.ensures c.next_drawn-drive.ensures c.next_drawn-pick.ensures

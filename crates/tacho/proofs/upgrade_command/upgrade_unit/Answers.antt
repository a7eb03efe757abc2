use Rattle.std.proofs.Common.{ap}
use Rattle.std.specs.Prelude.{Ok}
use Rattle.tacho.specs.Outside.{SinkTold}
use Rattle.tacho.proofs.Upgraded.{upgrade-failed, upgrade-bad, upgrade-done}
use Rattle.tacho.proofs.upgrade_command.upgrade_unit.Goals as goal

pub returns-in-Ok-clause-ends : goal.returns-in-Ok-clause-ends
returns-in-Ok-clause-ends g c =
    let r = c.in-Ok.ensures in
    let before : SinkTold = record { held = g.K.Sink.held c.args.sink.now; faults = g.K.Sink.faults c.args.sink.now } in
    let after : SinkTold = record { held = g.K.Sink.held c.print_upgrade.new.sink; faults = g.K.Sink.faults c.print_upgrade.new.sink } in
    upgrade-done c.in-Ok.newly (g.U.Medium.state c.args.unit.now) (g.U.Medium.state c.upgrade.new.unit) before after c.print_upgrade.result c.upgrade.ensures.moments r.cause r.most
    (record { version = r.upgraded.version; decodes = r.upgraded.decodes; image = r.upgraded.image; settled = λ is. r.settled (ap Ok is); nothing = λ is. r.nothing (ap Ok is) })
    c.print_upgrade.ensures.ok c.print_upgrade.ensures.err c.print_upgrade.ensures.cause

pub returns-in-Err-Failed-clause-ends : goal.returns-in-Err-Failed-clause-ends
returns-in-Err-Failed-clause-ends g c =
    let cause = rw c.in-Err-Failed.field-0-is at c.in-Err-Failed.ensures.cause in
    let sink : SinkTold = record { held = g.K.Sink.held c.args.sink.now; faults = g.K.Sink.faults c.args.sink.now } in
    upgrade-failed (g.U.Medium.state c.args.unit.now) (g.U.Medium.state c.upgrade.new.unit) sink c.upgrade.ensures.moments cause c.upgrade.ensures.most

pub returns-in-Err-BadUnit-clause-ends : goal.returns-in-Err-BadUnit-clause-ends
returns-in-Err-BadUnit-clause-ends g c =
    let cause = rw c.in-Err-BadUnit.field-0-is at c.in-Err-BadUnit.ensures.cause in
    let bad = rw c.in-Err-BadUnit.field-0-is at c.in-Err-BadUnit.ensures.bad in
    let clock = rw c.in-Err-BadUnit.field-0-is at c.in-Err-BadUnit.ensures.refused in
    let sink : SinkTold = record { held = g.K.Sink.held c.args.sink.now; faults = g.K.Sink.faults c.args.sink.now } in
    upgrade-bad (g.U.Medium.state c.args.unit.now) (g.U.Medium.state c.upgrade.new.unit) sink c.in-Err-BadUnit.place c.upgrade.ensures.moments cause bad clock c.upgrade.ensures.most

use Rattle.run_devices.specs.run_promise.Between.{devices}
use Rattle.run_record.proofs.Steps.{failure-recorded}
use Rattle.run_record.proofs.laws.a_failure_is_recorded.Goals as goal

pub returns : goal.returns
returns g z = failure-recorded
    (devices (g.M.Medium.state z.args.old_unit.now) (g.C.Chip.state z.args.old_a.now) (g.D.Chip.state z.args.old_b.now))
    (devices (g.N.Medium.state z.args.unit.now) (g.E.Chip.state z.args.card_a.now) (g.F.Chip.state z.args.card_b.now))

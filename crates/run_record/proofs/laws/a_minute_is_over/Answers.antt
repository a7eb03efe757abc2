use Rattle.run_devices.specs.run_promise.Between.{devices}
use Rattle.run_record.proofs.Beginning.{minute-over}
use Rattle.run_record.proofs.laws.a_minute_is_over.Goals as goal

pub returns : goal.returns
returns g z = minute-over (devices (g.M.Medium.state z.args.unit.now) (g.C.Chip.state z.args.card_a.now) (g.D.Chip.state z.args.card_b.now))

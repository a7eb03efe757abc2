use Rattle.run_devices.specs.run_promise.Between.{devices}
use Rattle.run_record.proofs.Going.{off-recorded}
use Rattle.run_record.proofs.laws.an_off_line_stays_recorded.Goals as goal

pub returns : goal.returns
returns g z = off-recorded (devices (g.M.Medium.state z.args.unit.now) (g.C.Chip.state z.args.card_a.now) (g.D.Chip.state z.args.card_b.now))

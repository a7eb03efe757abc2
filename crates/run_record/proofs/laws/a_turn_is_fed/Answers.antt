use Rattle.run_devices.specs.run_promise.Between.{devices}
use Rattle.run_record.proofs.Turning.{turn-is_fed}
use Rattle.run_record.proofs.laws.a_turn_is_fed.Goals as goal

pub returns : goal.returns
returns g z = turn-is_fed (devices (g.M.Medium.state z.args.unit.now) (g.C.Chip.state z.args.card_a.now) (g.D.Chip.state z.args.card_b.now))

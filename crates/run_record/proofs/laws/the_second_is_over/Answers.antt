use Rattle.run_devices.specs.run_promise.Between.{devices}
use Rattle.run_record.proofs.Ending.{second-over}
use Rattle.run_record.proofs.laws.the_second_is_over.Goals as goal

pub returns : goal.returns
returns g z = λ o done s v w. second-over o done s v (devices (g.M.Medium.state z.args.unit.now) (g.C.Chip.state z.args.card_a.now) (g.D.Chip.state z.args.card_b.now)) w

use Rattle.run_devices.specs.run_promise.Between.{devices}
use Rattle.run_record.proofs.Feeding.{second-is_fed}
use Rattle.run_record.proofs.laws.a_second_is_fed.Goals as goal

pub returns : goal.returns
returns g z = λ o done s v w minutes stands rest decides. second-is_fed o done s v (devices (g.M.Medium.state z.args.unit.now) (g.C.Chip.state z.args.card_a.now) (g.D.Chip.state z.args.card_b.now)) w minutes stands rest decides

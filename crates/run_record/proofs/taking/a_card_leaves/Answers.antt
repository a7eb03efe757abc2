use Rattle.run_devices.specs.run_promise.Between.{devices}
use Rattle.run_record.proofs.Leaving.{card-leaves}
use Rattle.run_record.proofs.taking.a_card_leaves.Goals as goal

pub returns : goal.returns
returns g z = card-leaves (devices (g.M.Medium.state z.args.unit.now) (g.C.Chip.state z.args.card_a.now) (g.D.Chip.state z.args.card_b.now))

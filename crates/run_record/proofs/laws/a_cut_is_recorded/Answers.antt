use Rattle.run_devices.specs.run_promise.Between.{devices}
use Rattle.run_record.proofs.Cutting.{cut-recorded}
use Rattle.run_record.proofs.laws.a_cut_is_recorded.Goals as goal

pub returns : goal.returns
returns g z = λ o done s at waits speed v w rest left.
    cut-recorded o done s at waits speed v (devices (g.M.Medium.state z.args.unit.now) (g.C.Chip.state z.args.card_a.now) (g.D.Chip.state z.args.card_b.now)) w rest left

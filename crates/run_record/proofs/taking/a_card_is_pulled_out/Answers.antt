use Rattle.run_devices.specs.run_promise.Between.{devices}
use Rattle.run_record.proofs.Pulling.{pulled-out}
use Rattle.run_record.proofs.taking.a_card_is_pulled_out.Goals as goal

pub returns : goal.returns
returns g z = pulled-out (devices (g.M.Medium.state z.args.unit.now) (g.C.Chip.state z.args.card_a.now) (g.D.Chip.state z.args.card_b.now))

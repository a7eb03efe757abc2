use Rattle.run_devices.specs.run_promise.Between.{devices}
use Rattle.run_note_record.proofs.Adding.{second-ends_now}
use Rattle.run_note_record.proofs.steps.a_second_ends_now.Goals as goal

pub returns : goal.returns
returns g z = second-ends_now (devices (g.M.Medium.state z.args.unit.now) (g.C.Chip.state z.args.card_a.now) (g.D.Chip.state z.args.card_b.now))

use Rattle.run_devices.specs.run_promise.Between.{devices}
use Rattle.run_note_record.proofs.Passing.{refusal-adds}
use Rattle.run_note_record.proofs.steps.a_refusal_adds_nothing.Goals as goal

pub returns : goal.returns
returns g z = refusal-adds (devices (g.M.Medium.state z.args.unit.now) (g.C.Chip.state z.args.card_a.now) (g.D.Chip.state z.args.card_b.now))

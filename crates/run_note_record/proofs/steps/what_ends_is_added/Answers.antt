use Rattle.run_devices.specs.run_promise.Between.{devices}
use Rattle.run_note_record.proofs.Ending.{ends-added}
use Rattle.run_note_record.proofs.steps.what_ends_is_added.Goals as goal

pub returns : goal.returns
returns g z = ends-added (devices (g.M.Medium.state z.args.unit.now) (g.C.Chip.state z.args.card_a.now) (g.D.Chip.state z.args.card_b.now))

use Rattle.run_devices.specs.run_promise.Between.{devices}
use Rattle.run_note_record.proofs.Finding.{find-adds}
use Rattle.run_note_record.proofs.steps.a_find_adds.Goals as goal

pub returns : goal.returns
returns g z = find-adds (devices (g.M.Medium.state z.args.unit.now) (g.C.Chip.state z.args.card_a.now) (g.D.Chip.state z.args.card_b.now))

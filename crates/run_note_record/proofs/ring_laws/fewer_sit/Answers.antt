use Rattle.run_devices.specs.run_promise.Between.{devices}
use Rattle.run_note_record.proofs.Rings.{fewer-sit}
use Rattle.run_note_record.proofs.ring_laws.fewer_sit.Goals as goal

pub returns : goal.returns
returns g z = fewer-sit (devices (g.M.Medium.state z.args.unit.now) (g.C.Chip.state z.args.card_a.now) (g.D.Chip.state z.args.card_b.now))

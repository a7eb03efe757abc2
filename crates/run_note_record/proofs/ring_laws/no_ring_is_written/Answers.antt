use Rattle.run_devices.specs.run_promise.Between.{devices}
use Rattle.run_note_record.proofs.Rings.{none-noted}
use Rattle.run_note_record.proofs.ring_laws.no_ring_is_written.Goals as goal

pub returns : goal.returns
returns g z = none-noted (devices (g.M.Medium.state z.args.unit.now) (g.C.Chip.state z.args.card_a.now) (g.D.Chip.state z.args.card_b.now))

use Rattle.run_devices.specs.run_promise.Between.{devices}
use Rattle.run_note_record.proofs.Ends.{nothing-noted}
use Rattle.run_note_record.proofs.event_laws.nothing_is_noted.Goals as goal

pub returns : goal.returns
returns g z = nothing-noted (devices (g.M.Medium.state z.args.unit.now) (g.C.Chip.state z.args.card_a.now) (g.D.Chip.state z.args.card_b.now))

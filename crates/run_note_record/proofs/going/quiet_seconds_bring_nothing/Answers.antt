use Rattle.run_devices.specs.run_promise.Between.{devices}
use Rattle.run_note_record.proofs.Quiet.{quiet-brings_nothing}
use Rattle.run_note_record.proofs.going.quiet_seconds_bring_nothing.Goals as goal

pub returns : goal.returns
returns g z = quiet-brings_nothing (devices (g.M.Medium.state z.args.unit.now) (g.C.Chip.state z.args.card_a.now) (g.D.Chip.state z.args.card_b.now))

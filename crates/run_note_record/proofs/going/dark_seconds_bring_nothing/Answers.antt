use Rattle.run_devices.specs.run_promise.Between.{devices}
use Rattle.run_note_record.proofs.Unlit.{dark-seconds}
use Rattle.run_note_record.proofs.going.dark_seconds_bring_nothing.Goals as goal

pub returns : goal.returns
returns g z = dark-seconds (devices (g.M.Medium.state z.args.unit.now) (g.C.Chip.state z.args.card_a.now) (g.D.Chip.state z.args.card_b.now))

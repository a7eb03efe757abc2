use Rattle.run_devices.specs.run_promise.Between.{devices}
use Rattle.run_note_record.proofs.Unlit.{off-line}
use Rattle.run_note_record.proofs.going.an_off_line_brings_nothing.Goals as goal

pub returns : goal.returns
returns g z = off-line (devices (g.M.Medium.state z.args.unit.now) (g.C.Chip.state z.args.card_a.now) (g.D.Chip.state z.args.card_b.now))

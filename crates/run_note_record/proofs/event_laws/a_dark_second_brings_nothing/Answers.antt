use Rattle.run_devices.specs.run_promise.Between.{devices}
use Rattle.run_note_record.proofs.Dark.{dark-brings}
use Rattle.run_note_record.proofs.event_laws.a_dark_second_brings_nothing.Goals as goal

pub returns : goal.returns
returns g z = dark-brings (devices (g.M.Medium.state z.args.unit.now) (g.C.Chip.state z.args.card_a.now) (g.D.Chip.state z.args.card_b.now))

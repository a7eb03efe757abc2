use Rattle.run_devices.specs.run_promise.Between.{devices}
use Rattle.run_note_record.proofs.Shown.{rings-shown, places-shown}
use Rattle.run_note_record.proofs.ring_laws.rings_are_shown.Goals as goal

pub returns : goal.returns
returns g z =
    let began = devices (g.M.Medium.state z.args.old_unit.now) (g.C.Chip.state z.args.old_a.now) (g.D.Chip.state z.args.old_b.now) in
    let now = devices (g.N.Medium.state z.args.unit.now) (g.E.Chip.state z.args.card_a.now) (g.F.Chip.state z.args.card_b.now) in
    record { rings = rings-shown began now; places = places-shown began now }

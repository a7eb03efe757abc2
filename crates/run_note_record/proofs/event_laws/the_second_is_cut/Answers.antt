use Rattle.run_devices.specs.run_promise.Between.{devices}
use Rattle.run_note_record.proofs.Noting.{second-is_cut}
use Rattle.run_note_record.proofs.event_laws.the_second_is_cut.Goals as goal

pub returns : goal.returns
returns g z = second-is_cut
    (devices (g.M.Medium.state z.args.old_unit.now) (g.C.Chip.state z.args.old_a.now) (g.D.Chip.state z.args.old_b.now))
    (devices (g.N.Medium.state z.args.unit.now) (g.E.Chip.state z.args.card_a.now) (g.F.Chip.state z.args.card_b.now))

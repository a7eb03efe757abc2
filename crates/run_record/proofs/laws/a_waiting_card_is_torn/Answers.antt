use Rattle.run_devices.specs.run_promise.Between.{devices}
use Rattle.run_record.proofs.Tearing.{torn-next}
use Rattle.run_record.proofs.laws.a_waiting_card_is_torn.Goals as goal

pub returns : goal.returns
returns g z = torn-next
    (devices (g.M.Medium.state z.args.old_unit.now) (g.C.Chip.state z.args.old_a.now) (g.D.Chip.state z.args.old_b.now))
    (devices (g.N.Medium.state z.args.unit.now) (g.E.Chip.state z.args.card_a.now) (g.F.Chip.state z.args.card_b.now))

use Rattle.run_devices.proofs.Left.{left-powered}
use Rattle.run_devices.proofs.device_laws.a_card_that_is_taken_out_leaves_what_is_carried.Goals as goal

pub returns : goal.returns
returns g c = λ f w cards left card a act found found_left has none same room run p.
    left-powered f w cards card (g.M.Medium.state c.args.unit.now) (g.C.Chip.state c.args.mine.now) (g.D.Chip.state c.args.mine_after.now) (g.E.Chip.state c.args.others.now) found (g.met.M.Medium.coherent c.args.unit.now) (g.met.C.Chip.coherent c.args.mine.now) a act has room
    p run left found_left none same

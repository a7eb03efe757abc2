use Rattle.recorder_with_cards.proofs.EnteredRings.{accept-writes}
use Rattle.recorder_with_cards.proofs.entered_rings.what_accept_writes_in_the_rings.Goals as goal

pub returns : goal.returns
returns g c = accept-writes
    (g.M.Medium.state c.args.unit.now) (g.N.Medium.state c.args.unit_after.now) (g.C.Chip.state c.args.card.now) (g.D.Chip.state c.args.card_after.now)
    (g.met.M.Medium.coherent c.args.unit.now) (g.met.N.Medium.coherent c.args.unit_after.now)

use Rattle.run_acts.proofs.EnteredWhole.{entered-recorded}
use Rattle.run_acts.proofs.entered.a_card_that_entered_is_recorded.Goals as goal

pub returns : goal.returns
returns g c = λ o done s n waits fewer e k out unfound next begun minutes w m failed v noted noted_after after way gone time.
    entered-recorded o done s n waits fewer e k out unfound next begun minutes (g.M.Medium.state c.args.unit.now) (g.C.Chip.state c.args.card.now) (g.E.Chip.state c.args.others.now) w m failed v noted noted_after after (g.N.Medium.state c.args.unit_after.now) (g.D.Chip.state c.args.card_after.now)
    (record { time = time; unit_before = g.met.M.Medium.coherent c.args.unit.now; unit_behind = g.met.N.Medium.coherent c.args.unit_after.now; card_before = g.met.C.Chip.coherent c.args.card.now; card_behind = g.met.D.Chip.coherent c.args.card_after.now }) way gone

use Rattle.run_promise.specs.Between.{devices}
use Rattle.run_promise.proofs.Beside.{spared-on}
use Rattle.run_promise.proofs.record_laws.cards_are_spared.Goals as goal

pub returns : goal.returns
returns g z =
    let d = devices (g.M.Medium.state z.args.old_unit.now) (g.C.Chip.state z.args.old_a.now) (g.D.Chip.state z.args.old_b.now) in
    let e = devices (g.N.Medium.state z.args.unit.now) (g.E.Chip.state z.args.card_a.now) (g.F.Chip.state z.args.card_b.now) in
    λ o done now log later more from old tells few step. spared-on o done now log later d e more from old tells few step

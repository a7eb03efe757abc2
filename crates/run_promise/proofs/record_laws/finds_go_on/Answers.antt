use Rattle.run_promise.specs.Between.{devices}
use Rattle.run_promise.proofs.Beside.{verdicts-on}
use Rattle.run_promise.proofs.record_laws.finds_go_on.Goals as goal

pub returns : goal.returns
returns g z =
    let d = devices (g.M.Medium.state z.args.old_unit.now) (g.C.Chip.state z.args.old_a.now) (g.D.Chip.state z.args.old_b.now) in
    let e = devices (g.N.Medium.state z.args.unit.now) (g.E.Chip.state z.args.card_a.now) (g.F.Chip.state z.args.card_b.now) in
    λ o done now log later unfound found marks acknowledged more from old left stay tells fresh kept. verdicts-on o done now log later unfound found marks acknowledged d e more from old left stay tells fresh kept

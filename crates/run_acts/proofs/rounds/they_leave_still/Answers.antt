use Rattle.run_minutes.specs.run_promise.Between.{devices}
use Rattle.run_acts.proofs.RoundWhole.{leave-still}
use Rattle.run_acts.proofs.rounds.they_leave_still.Goals as goal

pub returns : goal.returns
returns g z = λ o done s q all t v w k xs rest split rounds broken. leave-still o done s q all t v
    (devices (g.M.Medium.state z.args.old_unit.now) (g.C.Chip.state z.args.old_a.now) (g.D.Chip.state z.args.old_b.now))
    (devices (g.N.Medium.state z.args.unit.now) (g.E.Chip.state z.args.card_a.now) (g.F.Chip.state z.args.card_b.now))
    w k xs rest split rounds broken

use Rattle.run_minutes.specs.run_promise.Between.{devices}
use Rattle.run_acts.proofs.RoundBegun.{are-over}
use Rattle.run_acts.proofs.rounds.the_minutes_are_over.Goals as goal

pub returns : goal.returns
returns g z = λ o done s all t v w.
    are-over o done s all t v (devices (g.M.Medium.state z.args.unit.now) (g.C.Chip.state z.args.card_a.now) (g.D.Chip.state z.args.card_b.now)) w

use Rattle.run_minutes.specs.run_promise.Between.{devices}
use Rattle.run_acts.proofs.RoundBegun.{may-book}
use Rattle.run_acts.proofs.rounds.the_minutes_may_be_booked.Goals as goal

pub returns : goal.returns
returns g z = λ o done s q all t v w few over.
    may-book o done s q all t v (devices (g.M.Medium.state z.args.unit.now) (g.C.Chip.state z.args.card_a.now) (g.D.Chip.state z.args.card_b.now)) w few over

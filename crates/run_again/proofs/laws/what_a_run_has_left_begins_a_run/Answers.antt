use Rattle.run_again.proofs.Again.{begins_again}
use Rattle.run_again.proofs.laws.what_a_run_has_left_begins_a_run.Goals as goal

pub returns-clause-begins : goal.returns-clause-begins
returns-clause-begins g c = λ r next marks. begins_again r next marks
    (record { unit = g.U.Medium.state c.args.unit_then.now; card_a = g.C.Medium.state c.args.card_a_then.now; card_b = g.C.Medium.state c.args.card_b_then.now })
    (record { unit = g.U.Medium.state c.args.unit.now; card_a = g.C.Medium.state c.args.card_a.now; card_b = g.C.Medium.state c.args.card_b.now })

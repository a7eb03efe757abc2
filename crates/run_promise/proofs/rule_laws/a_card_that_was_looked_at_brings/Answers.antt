use Rattle.run_promise.proofs.Opening.{looked-brings, found-waits}
use Rattle.run_promise.proofs.rule_laws.a_card_that_was_looked_at_brings.Goals as goal

pub returns-clause-brings : goal.returns-clause-brings
returns-clause-brings g z = looked-brings

pub returns-clause-waits : goal.returns-clause-waits
returns-clause-waits g z = λ f c u x unit_begins card_begins looked valid.
    found-waits f c u x (g.M.Medium.state z.args.unit.now) (g.C.Chip.state z.args.card.now) (g.met.M.Medium.coherent z.args.unit.now) (g.met.C.Chip.coherent z.args.card.now) unit_begins card_begins looked valid

use Rattle.run_promise.proofs.Waiting.{comes-torn, comes-let_out}
use Rattle.run_promise.proofs.rule_laws.a_string_stays_with_the_card.Goals as goal

pub returns-clause-torn : goal.returns-clause-torn
returns-clause-torn g z = λ f h c b session newest floor s. record { string = s.string; comes = comes-torn f h c b session newest floor (g.M.Medium.state z.args.unit.now) (g.C.Chip.state z.args.card.now) s.comes }

pub returns-clause-out : goal.returns-clause-out
returns-clause-out g z = λ f h c b y dark s. record { string = s.string; comes = comes-let_out f h c b y (g.M.Medium.state z.args.unit.now) (g.C.Chip.state z.args.card.now) dark s.comes }

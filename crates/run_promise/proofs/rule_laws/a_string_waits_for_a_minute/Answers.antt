use Rattle.run_promise.proofs.Waiting.{strung-broken, strung-kept}
use Rattle.run_promise.proofs.rule_laws.a_string_waits_for_a_minute.Goals as goal

pub returns-clause-broken : goal.returns-clause-broken
returns-clause-broken g z = λ f h c b y i may run s. strung-broken f h c b y i (g.M.Medium.state z.args.before.now) (g.N.Medium.state z.args.after.now) (g.C.Chip.state z.args.card.now) (g.met.C.Chip.coherent z.args.card.now) may run s

pub returns-clause-kept : goal.returns-clause-kept
returns-clause-kept g z = λ f h c b y i s. strung-kept f h c b y i (g.M.Medium.state z.args.before.now) (g.C.Chip.state z.args.card.now) s

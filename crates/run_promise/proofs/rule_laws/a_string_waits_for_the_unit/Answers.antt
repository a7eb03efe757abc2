use Rattle.unit_rule.specs.device_rule.Views.{other}
use Rattle.unit_rule.specs.device_rule.Steps.{IsPutting, IsBeginning}
use Rattle.unit_rule.specs.device_rule.Marked.{IsBeside}
use Rattle.unit_rule.proofs.device_rule.Owing.{row-same}
use Rattle.unit_rule.proofs.device_rule.KeepLaws.{putting-beside}
use Rattle.run_promise.proofs.Waiting.{strung-found, comes-mended, comes-put, comes-beside, comes-begun}
use Rattle.run_promise.proofs.rule_laws.a_string_waits_for_the_unit.Goals as goal

pub returns-clause-found : goal.returns-clause-found
returns-clause-found g z = λ f h c b k y sure dark run s. strung-found f h c b k y (g.M.Medium.state z.args.before.now) (g.N.Medium.state z.args.after.now) (g.C.Chip.state z.args.card.now) (g.met.C.Chip.coherent z.args.card.now) sure dark run s

pub returns-clause-mended : goal.returns-clause-mended
returns-clause-mended g z = λ f h c b y run s. record { string = s.string; comes = comes-mended f h c b y (g.M.Medium.state z.args.before.now) (g.N.Medium.state z.args.after.now) (g.C.Chip.state z.args.card.now) run s.comes }

pub returns-clause-put : goal.returns-clause-put
returns-clause-put g z = λ f h c b y e present early stands run s. record { string = s.string; comes = comes-put f h c b y e (g.M.Medium.state z.args.before.now) (g.N.Medium.state z.args.after.now) (g.C.Chip.state z.args.card.now) present early stands run s.comes }

pub returns-clause-put_beside : goal.returns-clause-put_beside
returns-clause-put_beside g z = λ f h c b y e run s. record { string = s.string; comes = comes-beside f h (other c) (IsPutting c e) b y (g.M.Medium.state z.args.before.now) (g.N.Medium.state z.args.after.now) (g.C.Chip.state z.args.card.now) (putting-beside c e) run s.comes }

pub returns-clause-begun : goal.returns-clause-begun
returns-clause-begun g z = λ f h c b session newest entered early run s. record { string = s.string; comes = comes-begun f h c b session newest (g.M.Medium.state z.args.before.now) (g.N.Medium.state z.args.after.now) (g.C.Chip.state z.args.card.now) entered early run s.comes }

pub returns-clause-begun_beside : goal.returns-clause-begun_beside
returns-clause-begun_beside g z = λ f h c b y run s. record { string = s.string; comes = comes-beside f h (other c) (IsBeginning c) b y (g.M.Medium.state z.args.before.now) (g.N.Medium.state z.args.after.now) (g.C.Chip.state z.args.card.now) (λ u v n. (n.last, n.other)) run s.comes }

pub returns-clause-noted : goal.returns-clause-noted
returns-clause-noted g z = λ f h c b y run s. record { string = s.string; comes = comes-beside f h c IsBeside b y (g.M.Medium.state z.args.before.now) (g.N.Medium.state z.args.after.now) (g.C.Chip.state z.args.card.now) (λ u v n. (n.last, row-same c u v n.rows)) run s.comes }

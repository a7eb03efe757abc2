use Rattle.device_rule.proofs.Staying.{kept-marked, brought-marked}
use Rattle.device_rule.proofs.laws.what_is_on_a_card_is_acknowledged.Goals as goal

pub returns-clause-kept : goal.returns-clause-kept
returns-clause-kept g z = λ e settled ends. kept-marked (g.C.Chip.state z.args.before.now) (g.D.Chip.state z.args.after.now) e (g.met.D.Chip.coherent z.args.after.now) settled ends

pub returns-clause-brought : goal.returns-clause-brought
returns-clause-brought g z = λ a b c given now newest settled owing ends e at. brought-marked a b c given now newest (g.M.Medium.state z.args.unit.now) (g.C.Chip.state z.args.before.now) (g.D.Chip.state z.args.after.now) (g.met.D.Chip.coherent z.args.after.now) settled owing ends e at

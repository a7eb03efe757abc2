use Rattle.device_calls.proofs.TornOut.{torn-out}
use Rattle.device_calls.proofs.step_laws.a_torn_card_is_out.Goals as goal

pub returns : goal.returns
returns g c = λ r which b z d rule. torn-out r which b z d (g.M.Medium.state c.args.unit.now) (g.C.Chip.state c.args.card.now) rule

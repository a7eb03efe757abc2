use Rattle.device_calls.proofs.PowerBack.{torn}
use Rattle.device_calls.proofs.step_laws.a_torn_card_stands.Goals as goal

pub returns : goal.returns
returns g c = λ r card b time newest floor rule. torn r card b (g.M.Medium.state c.args.unit.now) (g.C.Chip.state c.args.card.now) time newest floor rule

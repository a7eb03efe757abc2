use Rattle.device_calls.proofs.MinuteSaid.{not_in}
use Rattle.device_calls.proofs.step_laws.a_card_out_of_its_slot_stands.Goals as goal

pub returns : goal.returns
returns g c = λ r card b z d out rule. not_in r card b z d (g.M.Medium.state c.args.unit.now) (g.C.Chip.state c.args.card.now) out rule

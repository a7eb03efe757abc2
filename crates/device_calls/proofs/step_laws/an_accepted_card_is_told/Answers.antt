use Rattle.device_calls.proofs.Told.{accepted-told}
use Rattle.device_calls.proofs.step_laws.an_accepted_card_is_told.Goals as goal

pub returns : goal.returns
returns g c = λ start r which b now newest same none rule entered u x on there sure late m later. accepted-told start r which b now newest (g.M.Medium.state c.args.unit.now) (g.C.Chip.state c.args.card.now) same none rule entered u x on there sure late m later

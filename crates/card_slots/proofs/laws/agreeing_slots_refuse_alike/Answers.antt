use Rattle.card_slots.proofs.Refusing.{refuse-alike}
use Rattle.card_slots.proofs.laws.agreeing_slots_refuse_alike.Goals as goal

pub returns : goal.returns
returns c = refuse-alike

use Rattle.safety_model.proofs.Verdicts.{accepted}
use Rattle.safety_model.proofs.laws.a_card_in_time_is_accepted.Goals as goal

pub returns : goal.returns
returns g a = λ r m n c second v says valid early once.
    accepted r ((g.U.Medium.state a.args.unit.now).left_since m) ((g.C.Medium.state a.args.card.now).left_since n) c second valid v says early once

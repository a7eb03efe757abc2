use Rattle.safety_model.proofs.Verdicts.{turned-away}
use Rattle.safety_model.proofs.laws.a_later_card_is_turned_away.Goals as goal

pub returns : goal.returns
returns g a = λ r m n c second v says valid late.
    turned-away r ((g.U.Medium.state a.args.unit.now).left_since m) ((g.C.Medium.state a.args.card.now).left_since n) c second valid v says late

use Rattle.card_image.proofs.Beside.{card_beside}
use Rattle.card_image.proofs.laws.a_write_beside_is_not_seen.Goals as goal

pub returns : goal.returns
returns c = λ app x y sound known place len b same. card_beside app x y sound known place len b same

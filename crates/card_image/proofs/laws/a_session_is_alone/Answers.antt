use Rattle.card_image.proofs.Beside.{session_alone}
use Rattle.card_image.proofs.laws.a_session_is_alone.Goals as goal

pub returns : goal.returns
returns c = λ app x y sound known vehicles days. session_alone app x y sound known vehicles days

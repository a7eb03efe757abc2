use Rattle.card_image.proofs.Beside.{vehicles_alone}
use Rattle.card_image.proofs.laws.vehicles_move_the_mark.Goals as goal

pub returns : goal.returns
returns c = λ app x y days session. vehicles_alone app x y days session

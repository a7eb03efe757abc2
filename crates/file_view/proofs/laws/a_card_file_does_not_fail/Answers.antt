use Rattle.file_view.proofs.OneWay.{does_not_fail}
use Rattle.file_view.proofs.laws.a_card_file_does_not_fail.Goals as goal

pub returns : goal.returns
returns c = λ app days vehicles entries bytes place file bad. does_not_fail app days vehicles entries bytes file place bad

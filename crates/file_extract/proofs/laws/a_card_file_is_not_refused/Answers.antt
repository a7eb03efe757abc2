use Rattle.file_extract.proofs.Exact.{not_refused}
use Rattle.file_extract.proofs.laws.a_card_file_is_not_refused.Goals as goal

pub returns : goal.returns
returns c = λ app days vehicles entries bytes place file none. not_refused app days vehicles entries bytes file place none

use Rattle.file_extract.proofs.Exact.{unchanged}
use Rattle.file_extract.proofs.laws.a_card_file_is_passed_on_whole.Goals as goal

pub returns : goal.returns
returns c = λ app days vehicles entries bytes part file is. unchanged app days vehicles entries bytes file part is

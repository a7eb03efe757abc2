use Rattle.file_extract.proofs.Fronts.{unit_whole}
use Rattle.file_extract.proofs.laws.a_unit_file_is_passed_on_whole.Goals as goal

pub returns : goal.returns
returns c = unit_whole

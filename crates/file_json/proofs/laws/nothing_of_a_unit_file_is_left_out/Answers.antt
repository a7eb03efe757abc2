use Rattle.file_json.proofs.UnitTelling.{unit_text_tells}
use Rattle.file_json.proofs.laws.nothing_of_a_unit_file_is_left_out.Goals as goal

pub returns : goal.returns
returns c = unit_text_tells

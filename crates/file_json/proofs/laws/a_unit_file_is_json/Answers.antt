use Rattle.file_json.proofs.UnitTelling.{unit_is_json}
use Rattle.file_json.proofs.laws.a_unit_file_is_json.Goals as goal

pub returns : goal.returns
returns c = unit_is_json

use Rattle.file_json.proofs.Apart.{told_apart}
use Rattle.file_json.proofs.laws.a_unit_file_is_told_from_a_card_file.Goals as goal

pub returns : goal.returns
returns c = told_apart

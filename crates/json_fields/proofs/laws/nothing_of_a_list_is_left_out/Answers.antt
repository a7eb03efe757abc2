use Rattle.json_fields.proofs.Telling.{list_tells}
use Rattle.json_fields.proofs.laws.nothing_of_a_list_is_left_out.Goals as goal

pub returns : goal.returns
returns c = list_tells

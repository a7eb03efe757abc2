use Rattle.json_fields.proofs.Telling.{list_is_json}
use Rattle.json_fields.proofs.laws.a_list_is_json.Goals as goal

pub returns : goal.returns
returns c = list_is_json

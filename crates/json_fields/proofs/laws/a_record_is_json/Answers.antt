use Rattle.json_fields.proofs.Telling.{record_is_json}
use Rattle.json_fields.proofs.laws.a_record_is_json.Goals as goal

pub returns : goal.returns
returns c = record_is_json

use Rattle.file_json.proofs.CardTelling.{card_is_json}
use Rattle.file_json.proofs.laws.a_card_file_is_json.Goals as goal

pub returns : goal.returns
returns c = card_is_json

use Rattle.file_json.proofs.CardTelling.{card_text_tells}
use Rattle.file_json.proofs.laws.nothing_of_a_card_file_is_left_out.Goals as goal

pub returns : goal.returns
returns c = card_text_tells

use Rattle.json_fields.proofs.Telling.{text_tells}
use Rattle.json_fields.proofs.laws.nothing_is_left_out.Goals as goal

pub returns : goal.returns
returns c = text_tells

use Rattle.message_model.proofs.Reading.{one_way}
use Rattle.message_model.proofs.laws.a_message_is_read_in_one_way.Goals as goal

pub returns : goal.returns
returns c = one_way

use Rattle.link_frames.proofs.Parts.{some_message}
use Rattle.link_frames.proofs.laws.a_part_is_of_some_message.Goals as goal

pub returns : goal.returns
returns c = some_message

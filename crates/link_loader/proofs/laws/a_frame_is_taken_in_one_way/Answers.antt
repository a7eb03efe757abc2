use Rattle.link_loader.proofs.OneWay.{taken_in_one_way}
use Rattle.link_loader.proofs.laws.a_frame_is_taken_in_one_way.Goals as goal

pub returns : goal.returns
returns c = taken_in_one_way

use Rattle.noisy_model.specs.Packets.{number_in}
use Rattle.noisy_link.proofs.packets.number_in.Goals as goal

pub returns : goal.returns
unfolding number_in
returns c = c.read_u64.ensures

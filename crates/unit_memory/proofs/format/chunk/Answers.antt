use Rattle.unit_model.specs.NewImage.{zeros}
use Rattle.std.proofs.Common.{refl}
use Rattle.unit_memory.proofs.format.chunk.Goals as goal

pub returns : goal.returns
unfolding zeros
returns c = refl

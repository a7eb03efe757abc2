use Rattle.std.proofs.Common.{◌∙◌, ℕ, List, ap}
use Rattle.byteorder.specs.Endian.{big_number}
use Rattle.unit_messages.proofs.parts.four_in.Goals as goal

pub returns : goal.returns
returns c = c.read_u32.ensures ∙ ap (λ (l : List ℕ). big_number 4 l) c.cut.ensures.bytes

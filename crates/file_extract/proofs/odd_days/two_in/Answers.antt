use Rattle.std.proofs.Common.{◌∙◌, ℕ, List, ap}
use Rattle.byteorder.specs.Endian.{big_number}
use Rattle.file_extract.proofs.odd_days.two_in.Goals as goal

pub returns : goal.returns
returns c = c.read_u16.ensures ∙ ap (λ (l : List ℕ). big_number 2 l) c.part.ensures.bytes

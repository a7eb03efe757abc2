use Rattle.std.proofs.Common.{◌∙◌, append-nil}
use Rattle.byteorder.specs.Endian.{big_bytes}
use Rattle.noisy_model.specs.Packets.{number_bytes}
use Rattle.noisy_link.proofs.packets.number_bytes.Goals as goal

pub returns-clause-value : goal.returns-clause-value
unfolding number_bytes
returns-clause-value c = c.write_u64.ensures ∙ append-nil (big_bytes 8 c.args.number)

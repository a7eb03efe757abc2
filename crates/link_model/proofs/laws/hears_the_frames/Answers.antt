use Rattle.std.proofs.Common.{[], refl}
use Rattle.link_model.proofs.Bytes.{bytes_read}
use Rattle.link_model.proofs.laws.hears_the_frames.Goals as goal

pub returns : goal.returns
returns c = λ bytes. bytes_read c.args.end [] bytes refl

use Rattle.std.proofs.Common.{refl}
use Rattle.message_model.specs.Sending.{sent_days}
use Rattle.safety_laws.proofs.download_laws.what_is_written_is_sent.Goals as goal

pub returns : goal.returns
unfolding sent_days
returns c = λ x. refl

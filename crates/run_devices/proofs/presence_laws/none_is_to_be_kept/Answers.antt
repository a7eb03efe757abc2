use Rattle.run_devices.proofs.Presence.{none-to_keep}
use Rattle.run_devices.proofs.presence_laws.none_is_to_be_kept.Goals as goal

pub returns : goal.returns
returns c = none-to_keep

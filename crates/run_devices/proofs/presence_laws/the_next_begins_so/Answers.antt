use Rattle.run_devices.proofs.Presence.{next-begins}
use Rattle.run_devices.proofs.presence_laws.the_next_begins_so.Goals as goal

pub returns : goal.returns
returns c = next-begins

use Rattle.run_devices.proofs.Presence.{minute-ends}
use Rattle.run_devices.proofs.presence_laws.a_minute_ends_so.Goals as goal

pub returns : goal.returns
returns c = minute-ends

use Rattle.run_devices.proofs.Presence.{minute-says}
use Rattle.run_devices.proofs.presence_laws.what_a_minute_says.Goals as goal

pub returns : goal.returns
returns c = minute-says

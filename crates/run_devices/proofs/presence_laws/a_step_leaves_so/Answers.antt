use Rattle.run_devices.proofs.Presence.{step-leaves}
use Rattle.run_devices.proofs.presence_laws.a_step_leaves_so.Goals as goal

pub returns : goal.returns
returns c = step-leaves

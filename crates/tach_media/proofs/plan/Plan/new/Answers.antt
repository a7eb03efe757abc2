use Rattle.std.proofs.Common.{arith}
use Rattle.tach_media.proofs.plan.Plan.new.Goals as goal

pub new-requires-room-T-Default : goal.new-requires-room-T-Default
new-requires-room-T-Default g c κs = omega (arith, c.requires)

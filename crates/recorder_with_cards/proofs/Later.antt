-- What holds of a device that is as it was.
use Rattle.std.proofs.Common.{arith}
use Rattle.tach_media.specs.Medium.{State}
use Rattle.run_opening.specs.Opening.{IsAsItWas}
use Rattle.run_minutes.specs.Later.{IsLater}

pub state-as-it-was : (old new : State) → IsAsItWas old new → IsLater old new
state-as-it-was old new was = record { clock = (let same = was.clock in omega (arith, same)); faults = was.faults; breakdowns = was.breakdowns; unbroken = was.unbroken; tells = was.tells }

-- A device that was only read is as it was.
use Rattle.std.proofs.Common.{◌≡◌, ◌⊎◌, Bool, true, false, inl, inr, refl, arith}
use Rattle.tach_media.specs.Medium.{State, LeavesOnly, Unchanged, HasCause, Rose, revivable}
use Rattle.tach_media.proofs.Runs.{starts, broken_same}
use Rattle.run_opening.specs.Opening.{IsAsItWas}

unbroken-by : (old new : State) (failed : Bool) → HasCause (revivable old) new failed → Rose old.faults new.faults ⊎ (new.breakdowns ≡ old.breakdowns)
unbroken-by old new true cause = inl (cause.fault refl)
unbroken-by old new false cause = inr (cause.unbroken refl)

-- by what was read since it was made to work again
pub as-it-was : (old new : State) (failed : Bool) → LeavesOnly old new Unchanged → new.clock ≡ old.clock → HasCause (revivable old) new failed → IsAsItWas old new
as-it-was old new failed leaves clock cause = record { leaves = leaves; clock = clock; faults = cause.faults; breakdowns = cause.breakdowns; unbroken = unbroken-by old new failed cause; tells = record { later = cause.tells.later; told = cause.tells.told } }

-- without a call
pub as-it-is : (s : State) → IsAsItWas s s
as-it-is s = record { leaves = starts s Unchanged; clock = refl; faults = omega arith; breakdowns = omega arith; unbroken = inr refl; tells = broken_same s }

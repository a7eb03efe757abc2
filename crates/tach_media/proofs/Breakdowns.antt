-- How often a run of calls broke a medium, counted from below.
use Rattle.std.proofs.Common.{◌≡◌, ℕ, ◌+◌, ◌≤◌, Bool, true, false, refl, arith}
use Rattle.std.specs.Prelude.{min}
use Rattle.tach_media.specs.Medium.{State, HasCause, HasBroken, broken_by, last_count, revivable}

-- no call yet
pub none_broken : (s : State) → HasBroken s s 0
none_broken s = record { faults = omega arith; breakdowns = omega arith }

-- one call more, however it ended
pub call_broken : {old mid new : State} {times : ℕ} (failed : Bool) → HasBroken old mid times → HasCause mid new failed → HasBroken old new (times + broken_by mid.works failed)
call_broken {old} {mid} {new} {times} failed run next = record { faults = omega (arith, run.faults, next.faults); breakdowns = counts mid.works refl failed next }
  where
    counts : (works : Bool) → mid.works ≡ works → (failed : Bool) → HasCause mid new failed → min (old.breakdowns + (times + broken_by works failed)) last_count ≤ new.breakdowns
    counts true is true next = omega (arith, run.breakdowns, next.breaks is refl)
    counts true is false next = omega (arith, run.breakdowns, next.breakdowns)
    counts false is failed next = omega (arith, run.breakdowns, next.breakdowns)

-- one `revive` more: one that fails is a breakdown, on a medium that does not work too
pub revive_broken : {old mid new : State} {times : ℕ} (failed : Bool) → HasBroken old mid times → HasCause (revivable mid) new failed → HasBroken old new (times + broken_by true failed)
revive_broken {old} {mid} failed run next = call_broken {mid = revivable mid} failed (record { faults = run.faults; breakdowns = run.breakdowns }) next

-- two runs, one after the other
pub both_broken : {old mid new : State} {times more : ℕ} → HasBroken old mid times → HasBroken mid new more → HasBroken old new (times + more)
both_broken first next = record { faults = omega (arith, first.faults, next.faults); breakdowns = omega (arith, first.breakdowns, next.breakdowns) }

-- fewer are so many at least too
pub fewer_broken : {old new : State} {times fewer : ℕ} → fewer ≤ times → HasBroken old new times → HasBroken old new fewer
fewer_broken few run = record { faults = run.faults; breakdowns = omega (arith, few, run.breakdowns) }

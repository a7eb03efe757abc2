-- What a file on a disk keeps of a write that is cut short, and what ends a group of writes.
use Rattle.std.specs.Prelude.{◌≡◌, ◌⊎◌, ℕ, ◌+◌, ◌≤◌, ◌<◌, ◌%◌, min, true, List, length}
use Rattle.tach_media.specs.Medium.{State, LeavesOnly, Unchanged, KeepsBroken, IsSettled, last_count, put, SameOutside}

-- A write of these bytes that is cut short: no byte outside of it changes; of at most four that lie inside one sector
-- of 512 bytes all are written or none; of any other there may be any bytes in its range.
pub record IsTorn (place : ℕ) (bytes old new : List ℕ) : Type 0 where
  pub outside : SameOutside place (length bytes) old new
  pub whole : length bytes ≤ 4 → place % 512 + length bytes ≤ 512 → (new ≡ old) ⊎ (new ≡ put place bytes old)

-- The end of a group of writes: the clock counts it, nothing else changes, and on a disk that works a stop leaves from
-- then on the image alone.
pub record Ends (old new : State) : Type 0 where
  pub same : new.image ≡ old.image
  pub leaves : LeavesOnly old new Unchanged
  pub clock : new.clock ≡ min (old.clock + 1) last_count
  pub works : new.works ≡ old.works
  pub faults : new.faults ≡ old.faults
  pub breakdowns : new.breakdowns ≡ old.breakdowns
  pub tells : KeepsBroken old new
  pub settled : new.works ≡ true → new.clock < last_count → IsSettled new

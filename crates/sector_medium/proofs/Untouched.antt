-- A memory on a disk on which no call was made.
use Rattle.std.proofs.Common.{ℕ, inl, refl, arith}
use Rattle.tach_media.specs.Medium.{State, IsUntouched}
use Rattle.sector_medium.specs.Recovered.{on_disk}

-- no call was made on it either
pub untouched : (size n : ℕ) (s : State) → IsUntouched n s → IsUntouched size (on_disk size s)
untouched size n s is = record {
  sized = refl;
  behind = refl;
  writable = inl (omega arith, omega arith);
  clock = is.clock;
  faults = is.faults;
  breakdowns = is.breakdowns;
}

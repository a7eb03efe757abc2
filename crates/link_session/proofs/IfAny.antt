-- Calls that only read, of which there may be none.
use Rattle.std.proofs.Common.{◌≡◌, Bool, inl, inr}
use Rattle.tach_media.specs.Medium.{State}
use Rattle.unit_minutes.specs.Reading.{ReadsIfAny}

-- the size stays
pub same_size : {old new : State} {failed : Bool} → ReadsIfAny old new failed → new.size ≡ old.size
same_size (inl none) = none.1.leaves.size
same_size (inr reads) = reads.leaves.size

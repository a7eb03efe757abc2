-- Calls that only read, of which there may be none.
use Rattle.std.proofs.Common.{◌≡◌, ⊎_elim, false, refl}
use Rattle.tach_media.specs.Medium.{State}
use Rattle.unit_minutes.specs.Reading.{ReadsIfAny}

pub read_same : {old new : State} → ReadsIfAny old new false → new.image ≡ old.image
read_same calls = ⊎_elim (λ none. none.1.same) (λ reads. reads.same refl) calls

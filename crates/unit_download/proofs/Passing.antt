-- What a tape has, frame after frame.
use Rattle.std.proofs.Common.{◌≡◌, List, Option, sym, subst}
use Rattle.unit_download.specs.declared.wire.Passed.{Passed}
use Rattle.unit_download.specs.Tapes.{HasMore}

-- what it had then
pub still-more : (old mid new : Option (List Passed)) (more : List Passed) → HasMore old mid more → new ≡ mid → HasMore old new more
still-more old mid new more first same = subst (λ (o : Option (List Passed)). HasMore old o more) (sym same) first

-- What a tape has of the frames that pass, where it tells it.
use Rattle.std.specs.Prelude.{◌≡◌, Option, IfSome, List, ◌++◌}
use Rattle.unit_download.specs.declared.wire.Passed.{Passed}

-- a tape has these frames
abbrev pub HasFrames : Option (List Passed) → List Passed → Type 0
HasFrames told wire = IfSome told (λ w. w ≡ wire)

-- behind what it had it has these
abbrev pub HasMore : (old new : Option (List Passed)) → List Passed → Type 0
HasMore old new more = (wire : List Passed) → HasFrames old wire → HasFrames new (wire ++ more)

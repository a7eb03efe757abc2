-- The image of a unit has the unit's size.
use Rattle.std.proofs.Common.{◌≡◌, List, ℕ, length, Some, arith}
use Rattle.gated_ring.specs.tach_media.Medium.{State, IsCoherent}
use Rattle.unit_model.specs.declared.layout.TheConstants.{IMAGE_SIZE}
use Rattle.unit_model.specs.Image.{IsUnit}

pub unit_sized : {s : State} → IsCoherent s → IsUnit s → (x : List ℕ) → s.image ≡ Some x → length x ≡ IMAGE_SIZE
unit_sized whole unit x is = omega (arith, whole.sized x is, unit.sized, unit.behind)

-- What the proofs of a `keep` start from.
use Rattle.std.proofs.Common.{◌≡◌, List, ℕ, length}
use Rattle.unit_model.specs.declared.layout.TheConstants.{IMAGE_SIZE}
use Rattle.unit_minutes.specs.Image.{Notes, IsNotes, Agrees}

-- notes with their ranges, and an image of a unit's size with which they agree
pub record IsNoted (j : Notes) (x : List ℕ) : Type 0 where
  pub ok : IsNotes j
  pub sized : length x ≡ IMAGE_SIZE
  pub agrees : Agrees j x

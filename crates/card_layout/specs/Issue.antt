-- What an issue writes, and what a stop leaves of it that cuts it short.
use Rattle.std.specs.Prelude.{◌≡◌, ◌⊎◌, List, [], ◌∷◌, length, ℕ}
use Rattle.card_layout.specs.Images.{SameOutside, bytes_at, put}
use Rattle.card_layout.specs.declared.files.TheConstants.{APPLICATION_RANGE}

-- An issue that a stop cuts short leaves the card type 0 between its first and its last write, and in the end the new
-- image. What stands behind the given image stays.
pub record IsPartlyIssued (image old new : List ℕ) : Type 0 where
  pub outside : SameOutside 0 (length image) old new
  pub typeless : bytes_at new APPLICATION_RANGE.base 1 ≡ 0 ∷ []

-- an issue was cut short, or the image is the given one with what stood behind it
abbrev pub IsIssued : List ℕ → List ℕ → List ℕ → Type 0
IsIssued image old new = IsPartlyIssued image old new ⊎ (new ≡ put 0 image old)

-- Places in a whole of several pieces (profile).
use Rattle.std.specs.Prelude.{◌≡◌, ◌+◌, ◌<◌, ℕ, List, length, sum, take}

-- WHERE A PLACE OF A WHOLE LIES, by the sizes of its pieces: in the piece of this index, and at this place in it
pub record LiesAt (sizes : List ℕ) (place index at : ℕ) : Type 0 where
  pub there : index < length sizes
  -- so many bytes stand before it
  pub behind : sum (take index sizes) + at ≡ place
  -- and it ends before the piece does, unless that is the last one
  pub before : index + 1 < length sizes → place < sum (take (index + 1) sizes)

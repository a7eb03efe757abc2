-- What a search for the newest entry has found.
use Rattle.std.specs.Prelude.{◌≡◌, ℕ, ◌<◌, true, List, [], ◌∷◌, ◌++◌, filter, Option, Some, None}
use Rattle.gated_ring.specs.Ring.{Shape, is_there}

-- this is the last of these indices whose entry is there
pub record IsLastOf (r : Shape) (x js : List ℕ) (i : ℕ) : Type 0 where
  pub below : i < r.count
  pub there : is_there r x i ≡ true
  pub older : List ℕ
  pub are : filter (is_there r x) js ≡ older ++ i ∷ []

-- the same, or None where none of them is there
abbrev pub IsNewestOf : Shape → List ℕ → List ℕ → Option ℕ → Type 0
IsNewestOf r x js None = filter (is_there r x) js ≡ []
IsNewestOf r x js (Some i) = IsLastOf r x js i

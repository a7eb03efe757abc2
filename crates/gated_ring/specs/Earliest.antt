-- The place that a new entry takes where no pointer tells it.
use Rattle.std.specs.Prelude.{ℕ, ◌<◌, ◌≤◌}

-- Of so many numbers the first of the least.
pub record IsEarliest (count : ℕ) (number : ℕ → ℕ) (i : ℕ) : Type 0 where
  pub below : i < count
  pub least : (j : ℕ) → j < count → number i ≤ number j
  pub first : (j : ℕ) → j < i → number i < number j

-- The lines of an outcome (profile).
use Rattle.std.specs.Prelude.{ℕ, List}
pub use Rattle.run_unit_course.specs.Lines.{cut_at, with_kept, found_from}

-- lines, and for how many there is room
pub record Listed (T : Type 0) : Type 0 where
  pub items : List T
  pub room : ℕ

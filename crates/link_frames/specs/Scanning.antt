-- A scanner as callers see it.
use Rattle.std.specs.Prelude.{ℕ, List}
use Rattle.link_model.specs.declared.side.End.{End}

-- the side that listens, and what has come of a frame that is not whole yet
pub record Scan : Type 0 where
  pub end : End
  pub kept : List ℕ

-- A minute of which the same is shown again and again.
use Rattle.std.specs.Prelude.{ℕ, suc, zero, ◌+◌, List, [], ◌∷◌, ◌++◌}
use Rattle.view_model.specs.declared.UnitShown.{UnitShown}
use Rattle.view_model.specs.declared.Viewed.{Viewed}
use Rattle.view_model.specs.declared.Line.{Line}

-- a minute of which the same is shown, so many minutes later
abbrev pub minute_after : ℕ → Viewed UnitShown → Viewed UnitShown
minute_after n m = record { minute = m.minute + n; shown = m.shown }

-- a minute so many times, each time a minute later
abbrev pub shown_run : Viewed UnitShown → ℕ → List (Viewed UnitShown)
shown_run m zero = []
shown_run m (suc n) = shown_run m n ++ minute_after n m ∷ []

-- a line that ends with a minute
abbrev pub to_minute : ℕ → Line UnitShown → Line UnitShown
to_minute minute line = record { first = line.first; last = minute; shown = line.shown }

-- lines of which the last one ends with a minute
abbrev pub ended_at : ℕ → List (Line UnitShown) → List (Line UnitShown)
ended_at minute [] = []
ended_at minute (line ∷ []) = to_minute minute line ∷ []
ended_at minute (line ∷ next ∷ lines) = line ∷ ended_at minute (next ∷ lines)

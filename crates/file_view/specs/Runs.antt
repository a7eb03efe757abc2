-- Minutes in a row of one day in which the same is shown.
use Rattle.std.specs.Prelude.{ℕ, ◌==◌, ◌&&◌, nat_le, Bool, List, [], ◌∷◌}
use Rattle.view_model.specs.declared.Line.{Line}
use Rattle.view_model.specs.Lines.{day_of_minute}

-- minutes from one to another are some, and of one day
abbrev pub is_run : (first last : ℕ) → Bool
is_run first last = nat_le first last && day_of_minute first == day_of_minute last

-- the last line ends with a later minute
abbrev pub with_last : {X : Type 0} → ℕ → List (Line X) → List (Line X)
with_last last [] = []
with_last last (line ∷ []) = record { first = line.first; last = last; shown = line.shown } ∷ []
with_last last (line ∷ next ∷ lines) = line ∷ with_last last (next ∷ lines)

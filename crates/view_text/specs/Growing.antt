-- Lines with one more minute behind them.
use Rattle.std.specs.Prelude.{◌+◌, ◌==◌, ◌&&◌, Bool, if◌then◌else◌, List, [], ◌∷◌}
use Rattle.view_model.specs.declared.Viewed.{Viewed}
use Rattle.view_model.specs.declared.Line.{Line}
use Rattle.view_model.specs.Lines.{day_of_minute}

-- a minute is the next one behind a line, on the same day, and the same is shown of it
abbrev pub follows : {X : Type 0} → (X → X → Bool) → Line X → Viewed X → Bool
follows same line m = line.last + 1 == m.minute && day_of_minute line.last == day_of_minute m.minute
    && same line.shown m.shown

-- a line of one minute
abbrev pub line_at : {X : Type 0} → Viewed X → Line X
line_at m = record { first = m.minute; last = m.minute; shown = m.shown }

-- a line that ends with a later minute
abbrev pub up_to : {X : Type 0} → Viewed X → Line X → Line X
up_to m line = record { first = line.first; last = m.minute; shown = line.shown }

-- lines with one more minute: at the end of the last one, or as a line of its own
abbrev pub with_more : {X : Type 0} → (X → X → Bool) → List (Line X) → Viewed X → List (Line X)
with_more same [] m = line_at m ∷ []
with_more same (line ∷ []) m = if follows same line m then up_to m line ∷ [] else line ∷ line_at m ∷ []
with_more same (line ∷ next ∷ lines) m = line ∷ with_more same (next ∷ lines) m

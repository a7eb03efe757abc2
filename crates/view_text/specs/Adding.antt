-- What is added to a view text.
use Rattle.std.specs.Prelude.{◌≡◌, ℕ, List, ◌++◌}
use Rattle.view_model.specs.declared.Line.{Line}
use Rattle.view_model.specs.Lines.{day_of_minute}
use Rattle.view_text.specs.Text.{line_text}
use Rattle.calendar_days.specs.Calendar.{IsDateText}

-- the date of a day at the end
abbrev pub AddsDay : (old new : List ℕ) → (day : ℕ) → Type 0
AddsDay old new day = (date : List ℕ) × IsDateText day date × (new ≡ old ++ date)

-- a line at the end
abbrev pub AddsLine : {X : Type 0} → (X → List ℕ) → (old new : List ℕ) → Line X → Type 0
AddsLine words old new line = (date : List ℕ) × IsDateText (day_of_minute line.first) date
    × (new ≡ old ++ date ++ line_text words line)

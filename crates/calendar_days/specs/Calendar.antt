-- Dates of day numbers.
use Rattle.std.specs.Prelude.{◌≡◌, ℕ, List, pos}
use Rattle.jiff.specs.Words.{epoch_day, date_text}
use Rattle.jiff.specs.Types.{Date}

-- `2010-03-01`: the text is the date of the day with this number since 1970-01-01
abbrev pub IsDateText : ℕ → List ℕ → Type 0
IsDateText day text = (date : Date) × (epoch_day date ≡ pos day) × (text ≡ date_text date)

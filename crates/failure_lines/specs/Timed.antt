-- A line of what happened in a second (profile).
use Rattle.std.specs.Prelude.{◌≡◌, ℕ, ◌/◌, List, ◌++◌, codes}
use Rattle.activity_codec.specs.declared.day.TheConstants.{DAY_SECONDS}
use Rattle.calendar_days.specs.Calendar.{IsDateText}
use Rattle.calendar_days.specs.Clock.{seconds_text}

-- a line: `WHO DID 2010-03-01 06:12:03: WHAT`, where DID is as ` failed at `
abbrev pub IsTimedText : (who did : List ℕ) → (second : ℕ) → (what : List ℕ) → List ℕ → Type 0
IsTimedText who did second what text =
    (date : List ℕ) × IsDateText (second / DAY_SECONDS) date
    × (text ≡ who ++ did ++ date ++ codes " " ++ seconds_text second ++ codes ": " ++ what ++ codes "\n")

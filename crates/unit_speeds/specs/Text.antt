-- The text of detailed speed (profile).
use Rattle.std.specs.Prelude.{◌≡◌, ℕ, ◌/◌, Option, List, [], ◌∷◌, ◌++◌, length, drop, codes, decimal}
use Rattle.calendar_days.specs.Calendar.{IsDateText}
use Rattle.calendar_days.specs.Clock.{clock_text}
use Rattle.message_model.specs.Messages.{Message, IsUnitFile}
use Rattle.file_view.specs.Showing.{before_last}
use Rattle.unit_speeds.specs.declared.line.SpeedLine.{SpeedLine}
use Rattle.unit_speeds.specs.Speeds.{speeds_told}

-- ` max 87`
abbrev pub figure_text : (name : List ℕ) → (number : ℕ) → List ℕ
figure_text name number = name ++ decimal number

-- what stands behind the date: ` 09:05 max 87 mean 63 moving 60`
abbrev pub speed_words : SpeedLine → List ℕ
speed_words line =
    codes " " ++ clock_text (line.time / 60) ++ figure_text (codes " max ") line.most
    ++ figure_text (codes " mean ") line.mean
    ++ figure_text (codes " moving ") line.moving ++ codes "\n"

-- the date of a day at the end of a text
abbrev pub AddsDate : (old new : List ℕ) → (day : ℕ) → Type 0
AddsDate old new day = (date : List ℕ) × IsDateText day date × (new ≡ old ++ date)

-- a line at the end of a text
abbrev pub AddsSpeedLine : (old new : List ℕ) → SpeedLine → Type 0
AddsSpeedLine old new line = (date : List ℕ) × IsDateText (line.time / 86400) date
    × (new ≡ old ++ date ++ speed_words line)

-- a line each, one after another
abbrev pub AreSpeedLines : List SpeedLine → List ℕ → Type 0
AreSpeedLines [] text = text ≡ []
AreSpeedLines (line ∷ lines) text =
    (date : List ℕ) × (rest : List ℕ) × IsDateText (line.time / 86400) date × (text ≡ date ++ speed_words line ++ rest)
    × AreSpeedLines lines rest

-- the last so many lines, or all
abbrev pub last_lines : Option ℕ → List SpeedLine → List SpeedLine
last_lines last lines = drop (before_last last (length lines)) lines

-- THE TEXT OF A UNIT FILE'S DETAILED SPEED: a line for each of its blocks, or for the last so many
pub record PrintsSpeeds (last : Option ℕ) (bytes out : List ℕ) : Type 0 where
  pub messages : List Message
  pub file : IsUnitFile messages bytes
  pub text : AreSpeedLines (last_lines last (speeds_told messages)) out

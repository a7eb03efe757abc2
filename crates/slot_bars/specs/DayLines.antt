-- The lines of days.
use Rattle.std.specs.Prelude.{◌≡◌, ℕ, zero, suc, ◌<◌, ◌≤◌, ◌==◌, ◌&&◌, nat_lt, Bool, true, false, if◌then◌else◌, List}
use Rattle.std.specs.Prelude.{[], ◌∷◌, length}
use Rattle.tacho_types.specs.declared.calendar.TheConstants.{DAYS}
use Rattle.view_model.specs.declared.Line.{Line}
use Rattle.view_model.specs.Lines.{day_of_minute}
use Rattle.file_view.specs.Histories.{minutes_on}
use Rattle.file_view.specs.Runs.{is_run}

-- each of these lines has minutes, of one day that a time of four bytes can name
abbrev pub AreDayLines : {X : Type 0} → List (Line X) → Type 0
AreDayLines [] = Unit {0}
AreDayLines (line ∷ lines) = (is_run line.first line.last ≡ true) × (day_of_minute line.first < DAYS)
    × AreDayLines lines

-- a line begins behind another, on the same day
abbrev pub is_behind : {X : Type 0} → (line next : Line X) → Bool
is_behind line next = nat_lt line.last next.first && day_of_minute line.last == day_of_minute next.first

-- the line behind that at an index does, and there is one
abbrev pub is_behind_at : {X : Type 0} → List (Line X) → ℕ → Bool
is_behind_at [] i = false
is_behind_at (line ∷ []) i = false
is_behind_at (line ∷ next ∷ lines) zero = is_behind line next
is_behind_at (line ∷ next ∷ lines) (suc i) = is_behind_at (next ∷ lines) i

-- how many lines the first day has: as long as the next begins behind the one before it, on the same day
abbrev pub day_lines : {X : Type 0} → List (Line X) → ℕ
day_lines [] = 0
day_lines (line ∷ []) = 1
day_lines (line ∷ next ∷ lines) = if is_behind line next then suc (day_lines (next ∷ lines)) else 1

-- the lines of one day
pub record IsOneDay {X : Type 0} (lines : List (Line X)) : Type 0 where
  pub some : 0 < length lines
  pub each : AreDayLines lines
  pub few : length (minutes_on lines) ≤ 1440

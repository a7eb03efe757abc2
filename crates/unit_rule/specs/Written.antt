-- THE DAYS OF A UNIT AS THEY ARE WRITTEN, by the minutes since the start: the words of the start, and the new words of
-- each minute, no others (profile).
use Rattle.std.specs.Prelude.{◌≡◌, ◌⊎◌, ℕ, ◌-◌, ◌≤◌, List, [], ◌∷◌, ◌++◌, length, map}
use Rattle.unit_minutes.specs.unit_model.declared.layout.TheConstants.{DAY_SLOTS}
use Rattle.unit_minutes.specs.unit_model.Days.{StoredDay}
use Rattle.unit_minutes.specs.unit_model.Image.{last_kept}
use Rattle.unit_minutes.specs.Kept.{written_at}
use Rattle.unit_minutes.specs.DaysWith.{days_with, written_days}
use Rattle.run_unit_course.specs.history_model.Minutes.{HistoryMinute}
use Rattle.safety_model.specs.device_rule.Filling.{seen_by_unit}

-- a minute of the history, and the odometer value with which it was written
pub record MinuteWritten : Type 0 where
  pub minute : HistoryMinute
  pub odometer : ℕ

-- days with these minutes more, one after another, behind those up to a last-kept one
abbrev pub days_behind : (kept : ℕ) → List MinuteWritten → List StoredDay → List StoredDay
days_behind kept [] days = days
days_behind kept (w ∷ ws) days = days_behind w.minute.minute ws
    (days_with kept (written_at w.odometer (seen_by_unit w.minute)) days)

-- the last-kept minute behind them
abbrev pub last_behind : (kept : ℕ) → List MinuteWritten → ℕ
last_behind kept [] = kept
last_behind kept (w ∷ ws) = last_behind w.minute.minute ws

-- all of these days but the oldest, of which some are gone where at least 365 are left
pub record AreNewest (every now : List StoredDay) : Type 0 where
  pub gone : List StoredDay
  pub are : every ≡ gone ++ now
  pub few : (gone ≡ []) ⊎ (DAY_SLOTS - 1 ≤ length now)

-- THE DAYS OF AN IMAGE ARE THOSE OF THE START, as they are written, WITH JUST THE WORDS OF THESE MINUTES: each slot's
-- new state, and the state that is not known in a gap. The oldest may be gone.
pub record ShowsWritten (start : List ℕ) (past : List HistoryMinute) (x : List ℕ) : Type 0 where
  pub written : List MinuteWritten
  pub are : map (λ w. w.minute) written ≡ past
  pub last : last_behind (last_kept start) written ≡ last_kept x
  pub days : AreNewest (days_behind (last_kept start) written (written_days start)) (written_days x)

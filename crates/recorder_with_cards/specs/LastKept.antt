-- What the last-kept minute of the unit's images tells (profile).
use Rattle.std.specs.Prelude.{ℕ, ◌≤◌, List, All, Contains}
use Rattle.log_model.specs.run_model.declared.Device.TheVariants.{Unit as Recorder}
use Rattle.tach_media.specs.Medium.{State}
use Rattle.unit_minutes.specs.unit_model.Days.{ShownDay}
use Rattle.unit_minutes.specs.unit_model.Image.{last_kept}
use Rattle.log_model.specs.declared.lines.Mark.{Mark}
use Rattle.device_calls.specs.history_model.Minutes.{HistoryMinute}
use Rattle.device_calls.specs.history_model.Book.{IsMark}
use Rattle.device_calls.specs.safety_model.Unit.{UnitSafe, marks_of}

-- THE LAST-KEPT MINUTE of each image that the unit might have left since a clock is the start's, or that of one of the
-- minutes which it shows by the crash-safety theorem, and none of these is later; and behind an acknowledgement, which
-- came no earlier, no image has an earlier one.
pub record TellsLast {start : List ShownDay} {past : List HistoryMinute} {lost : List (List HistoryMinute)}
    {marks : List Mark} {since : ℕ} {unit : State}
    (first : ℕ) (safe : UnitSafe start past lost marks since unit) : Type 0 where
  pub last : (x : List ℕ) (left : unit.left_since since x) → IsMark first (safe.minutes x left).some (last_kept x)
  pub until : (x : List ℕ) (left : unit.left_since since x)
      → All (λ i. i.minute ≤ last_kept x) (safe.minutes x left).some
  pub began : (m : Mark) → Contains (marks_of Recorder marks) m → since ≤ m.clock
  pub held : (m : Mark) → Contains (marks_of Recorder marks) m → (x : List ℕ) → unit.left_since m.clock x
      → m.minute ≤ last_kept x

-- What comes out of an image that a stop left (profile).
use Rattle.std.specs.Prelude.{◌≡◌, ℕ, None, List, Contains}
use Rattle.tach_media.specs.Medium.{State}
use Rattle.run_model.specs.declared.Device.TheVariants.{Unit as Recorder}
use Rattle.log_model.specs.declared.lines.Mark.{Mark}
use Rattle.history_model.specs.Minutes.{HistoryMinute}
use Rattle.unit_model.specs.Days.{ShownDay, UnitMinute}
use Rattle.unit_model.specs.Image.{unit_minutes}
use Rattle.message_model.specs.Messages.{IsUnitFile}
use Rattle.message_model.specs.Sending.{messages_of, unit_file}
use Rattle.file_view.specs.UnitShowing.{ShowsUnitFile}
use Rattle.safety_model.specs.Unit.{UnitShows, marks_of}

-- What is handed out of this image, by what a run promises of its unit.
pub record IsHandedOut (start : List ShownDay)
    (past : List HistoryMinute) (lost : List (List HistoryMinute)) (marks : List Mark) (unit : State)
    (x : List ℕ) : Type 0 where
  -- a download of it is a file of the grammar
  pub file : IsUnitFile (messages_of x) (unit_file x)
  -- whatever a view shows of that file are the image's minutes
  pub viewed : (shown : List UnitMinute) → ShowsUnitFile None (unit_file x) shown → shown ≡ unit_minutes x
  -- and the image shows the start and a part of the history from its front,
  pub kept : UnitShows start past lost x
  -- with each minute in it that was acknowledged before the stop
  pub acknowledged : (m : Mark) → Contains (marks_of Recorder marks) m → unit.left_since m.clock x
      → (i : HistoryMinute) × (i.minute ≡ m.minute) × ((s : UnitShows start past lost x) × Contains s.some i)

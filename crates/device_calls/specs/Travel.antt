-- What the steps on the unit leave of its odometer.
use Rattle.std.specs.Prelude.{◌≡◌, ℕ, Bool, false}
use Rattle.tach_media.specs.Medium.{State}
use Rattle.unit_rule.specs.history_model.Minutes.{HistoryMinute}
use Rattle.unit_rule.specs.history_model.Book.{Book, kept, broken}
use Rattle.unit_rule.specs.run_unit_course.Legs.{Travel, travelled, stranded}
use Rattle.unit_rule.specs.Odometer.{HasTravelled}

-- a minute was to be kept up to which so much was travelled: where that ended well it is travelled, and else it may be
pub record HasGone (start : ℕ) (b : Book) (g : Travel) (i : HistoryMinute) (leg : ℕ) (failed : Bool)
    (unit : State) : Type 0 where
  pub lit : failed ≡ false → HasTravelled start (kept i b) (travelled i.minute leg g) unit
  pub dark : HasTravelled start (broken i b) (stranded i.minute leg g) unit

-- The odometer, over the steps on the unit beside the keeping of a minute.
use Rattle.std.proofs.Common.{ℕ, Option, List}
use Rattle.tach_media.specs.Medium.{State, IsCoherent, LeavesOnly}
use Rattle.device_calls.specs.unit_owed.Rows.{IsRowBeginning}
use Rattle.device_calls.specs.unit_minutes.declared.notes.Notes.{Notes}
use Rattle.device_calls.specs.unit_minutes.Mends.{IsMending}
use Rattle.device_calls.specs.Journal.{LeavesJournal}
use Rattle.device_calls.specs.history_model.Book.{Book}
use Rattle.device_calls.specs.run_unit_course.Legs.{Travel}
use Rattle.device_calls.specs.unit_rule.Odometer.{HasTravelled}
use Rattle.device_calls.proofs.unit_rule.Elsewhere.{rows-elsewhere, travelled-elsewhere}
use Rattle.device_calls.proofs.unit_rule.Mending.{mending-travel}
use Rattle.device_calls.proofs.unit_rule.Travelling.{travelled-aside}
use Rattle.device_calls.proofs.Noted.{same_journal}

module _ (start : ℕ) (b : Book) (g : Travel) {U V : State} (t : HasTravelled start b g U) (whole : IsCoherent U) where
  -- a note
  pub travelled-noted : LeavesOnly U V LeavesJournal → HasTravelled start b g V
  travelled-noted run = travelled-elsewhere start b g t whole LeavesJournal run (λ x c is. same_journal x c is.keeps)

  -- a row that is begun
  pub travelled-begun : (number : List ℕ) (session : ℕ) (spared : Option (List ℕ)) → LeavesOnly U V (IsRowBeginning number session spared) → HasTravelled start b g V
  travelled-begun number session spared run = travelled-elsewhere start b g t whole (IsRowBeginning number session spared) run (λ x c is. rows-elsewhere x c is.outside)

  -- a mend
  pub travelled-mended : (j : Notes) → LeavesOnly U V (IsMending j) → HasTravelled start b g V
  travelled-mended j run = travelled-aside start b g t whole (IsMending j) run (λ x c is. mending-travel j x c is)

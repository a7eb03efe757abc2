-- What the calls on a journal ask, and what they do, each in one record.
use Rattle.std.specs.Prelude.{◌≡◌, ℕ, ◌+◌, ◌<◌, ◌≤◌, List, min, IfSome, OnErr, OnOk, Result, is_err}
use Rattle.activity_codec.specs.declared.entries.Entry.{Entry}
use Rattle.activity_codec.specs.declared.day.TheConstants.{DAY_MINUTES}
use Rattle.tach_media.specs.Medium.{State, HasCause, IsSettled, LeavesOnly, StaysSettled, last_count}
use Rattle.tach_media.specs.Plan.{PutsBy}
use Rattle.tach_media.specs.declared.fault.Failed.{Failed}
use Rattle.unit_model.specs.declared.layout.TheConstants.{HIGHEST_ODOMETER, LAST_MINUTE}
use Rattle.unit_model.specs.Image.{IsUnit}
use Rattle.unit_owed.specs.Rows.{HasRow, OwedRowHas}
use Rattle.unit_minutes.specs.Image.{Agrees}
use Rattle.unit_minutes.specs.Keeping.{IsKept, IsKeeping}
use Rattle.unit_minutes.specs.Kept.{kept_minute, keeping_of, HasDaysBetween, HasDaysWith}
use Rattle.unit_minutes.specs.Mends.{HasNothingLater, IsMended, notes_mended}
use Rattle.unit_minutes.specs.Plans.{most_kept}
use Rattle.unit_minutes.specs.declared.kept.KeptMinute.{KeptMinute}
use Rattle.unit_minutes.specs.declared.notes.Notes.{Notes}

-- THE UNIT IS READY for a call: it is a unit, and its image tells the notes
pub record UnitIsReady (notes : Notes) (U : State) : Type 0 where
  pub unit : IsUnit U
  pub agrees : IfSome U.image (Agrees notes)

-- A MINUTE MAY BE KEPT by the unit: it is later than the last-kept one, and it and its odometer are within their bounds
pub record MinuteMayBeKept (m : KeptMinute) (notes : Notes) : Type 0 where
  pub low : DAY_MINUTES ≤ m.minute
  pub later : notes.kept < m.minute
  pub small : m.minute ≤ LAST_MINUTE
  pub odometer : m.odometer.0 ≤ HIGHEST_ODOMETER

-- THE UNIT HAS KEPT a minute: it is the last-kept one, with its odometer, and the image tells the notes; the image has
-- it; its days are those before with this minute; and a stop leaves it as it is
pub record UnitKept (m : KeptMinute) (next : Notes) (U V : State) : Type 0 where
  pub notes : (next.kept ≡ m.minute) × (next.odometer ≡ m.odometer.0)
  pub agrees : IfSome V.image (Agrees next)
  pub kept : IfSome U.image (λ x. IfSome V.image (IsKept (kept_minute m) x))
  pub days : IfSome U.image (λ x. IfSome V.image (HasDaysWith m x))
  pub settled : V.clock < last_count → IsSettled V

-- A MINUTE WAS TO BE KEPT: after Ok the unit has it, and after an error the notes are as they were; these writes were
-- made or begun, seven at most on the last-kept minute's day and twelve on a later one; each image that a stop may
-- leave has the days before or those with the minute, and their words; and an error has its cause
pub record KeepsMinute (m : KeptMinute) (result : Result (Unit {0}) Failed) (old next : Notes) (U V : State) : Type
    0 where
  pub kept : OnOk result (UnitKept m next U V)
  pub same : OnErr result (next ≡ old)
  pub puts : PutsBy U V (is_err result) 3 (most_kept old.kept m.minute) (keeping_of old m)
  pub moments : LeavesOnly U V (IsKeeping (kept_minute m) m.odometer.0)
  pub words : LeavesOnly U V (HasDaysBetween m)
  pub cause : HasCause U V (is_err result)

-- THE UNIT IS MENDED: nothing that is later than the last-kept minute is noted, and the image tells the notes; nothing
-- later is in the image, of which nothing was begun where nothing was; and where a write was made, or a stop left the
-- image as it was, a stop leaves it as it is
pub record UnitMended (old next : Notes) (U V : State) : Type 0 where
  pub notes : next ≡ notes_mended old
  pub agrees : IfSome V.image (Agrees next)
  pub mended : IfSome U.image (λ x. IfSome V.image (IsMended x))
  pub idle : IfSome U.image (λ x. HasNothingLater old x → V.clock ≡ U.clock)
  pub settled : StaysSettled U V

-- THE UNIT HAS PUT an entry into the row of a number: the image tells the notes, which stay, and has the row; three
-- writes were made, by which the row has the entry; and a stop leaves it as it is
pub record UnitPut (number : List ℕ) (entry : Entry) (notes : Notes) (U V : State) : Type 0 where
  pub agrees : IfSome V.image (Agrees notes)
  pub row : IfSome V.image (HasRow number)
  pub wrote : IfSome U.image (λ x. min (U.clock + 3) last_count ≤ V.clock)
  pub put : IfSome U.image (λ x. IfSome V.image (OwedRowHas number entry x))
  pub settled : StaysSettled U V

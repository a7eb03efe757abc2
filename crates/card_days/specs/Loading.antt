-- What the walk of `load` has read.
use Rattle.std.specs.Prelude.{◌≡◌, ◌⊎◌, ℕ, ◌+◌, ◌-◌, ◌*◌, ◌<◌, ◌≤◌, Bool, true, false, Some, None, Result, Ok, Err}
use Rattle.std.specs.Prelude.{List, ◌++◌}
use Rattle.tach_media.specs.Medium.{bytes_at}
use Rattle.card_model.specs.Bytes.{number, two_bytes}
use Rattle.card_model.specs.Days.{Day, len_of, record_of, IsDay}
use Rattle.card_model.specs.Image.{StringShape}
use Rattle.card_model.specs.Checks.{first_failing, record_checks, file_place}
use Rattle.card_layout.specs.declared.files.Range.{Range}
use Rattle.card_days.specs.declared.fault.DaysFault.{DaysFault}
use Rattle.card_days.specs.declared.fault.DaysFault.TheVariants as fault
use Rattle.card_days.specs.declared.head.RecordHead.{RecordHead}

-- the string of a range that is the file of days
abbrev pub shape_of : Range → StringShape
shape_of range = record { base = range.base; size = range.len - 4 }

-- what is said of the place in a fault
abbrev pub IfBadDays : DaysFault → (ℕ → Type 0) → Type 0
IfBadDays fault.Failed P = Unit {0}
IfBadDays (fault.BadDays place) P = P place

-- the medium failed
abbrev pub has_failed : {T : Type 0} → Result T DaysFault → Bool
has_failed (Ok v) = false
has_failed (Err fault.Failed) = true
has_failed (Err (fault.BadDays place)) = false

-- so many pairs of bytes each spell a number
abbrev pub ArePairs : ℕ → List ℕ → Type 0
ArePairs count bytes = (j : ℕ) → j < count → bytes_at bytes (2 * j) 2 ≡ two_bytes (number (bytes_at bytes (2 * j) 2))

-- the bytes begin with the record of a day, which passes its checks and has this length and date
pub record IsRecord (size so_far before date : ℕ) (bytes : List ℕ) (h : RecordHead) : Type 0 where
  pub passes : first_failing (record_checks size so_far before date bytes) ≡ None
  pub day : Day
  pub previous : ℕ
  pub rest : List ℕ
  pub spelled : bytes ≡ record_of previous day ++ rest
  pub is : IsDay day
  pub later : date < day.date
  pub follows : (so_far ≡ 0) ⊎ (previous ≡ before)
  pub fits : so_far + len_of day ≤ size
  pub len : h.len ≡ len_of day
  pub date_is : h.date ≡ day.date

-- the record fails a check, and this is its place in the file of days
pub record FailsAt (size oldest so_far before date : ℕ) (bytes : List ℕ) (place : ℕ) : Type 0 where
  pub offset : ℕ
  pub fails : first_failing (record_checks size so_far before date bytes) ≡ Some offset
  pub is : place ≡ file_place size oldest (so_far + offset)

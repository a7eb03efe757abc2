-- What a run that begins finds of its unit, and how the unit stands between two calls (profile).
use Rattle.std.specs.Prelude.{ℕ, Bool, true, false, Option, List}
use Rattle.tach_media.specs.Medium.{State}
use Rattle.unit_minutes.specs.unit_model.Days.{ShownDay}
use Rattle.unit_minutes.specs.unit_model.Image.{recorded, last_kept}
use Rattle.unit_minutes.specs.unit_owed.Owed.{rows_in}
use Rattle.unit_minutes.specs.unit_owed.Standing.{IsOneOf, RowsGoOn, AreMended}
use Rattle.run_unit_course.specs.history_model.Book.{Book}
use Rattle.safety_model.specs.device_rule.Views.{UnitView, unit_view}
use Rattle.safety_model.specs.device_rule.Device.{Seen, seen}
use Rattle.safety_model.specs.device_rule.Filling.{FillsDays}
use Rattle.safety_model.specs.device_rule.Rules.{UnitHolds}
use Rattle.safety_model.specs.Unit.{issued_bytes}

-- what the opening found: the recorded days, the last-kept minute, what the unit was issued with, the clock, the image,
-- and of each card that is valid its number; and whether the unit was mended since it has power
pub record Started : Type 0 where
  pub days : List ShownDay
  pub first : ℕ
  pub issued : List ℕ
  pub began : ℕ
  pub image : List ℕ
  pub number_a : Option (List ℕ)
  pub number_b : Option (List ℕ)
  pub mended : Bool

-- the same of a run that begins with this image, beside cards of these numbers, at this clock; it was not mended yet
abbrev pub started : List ℕ → (number_a number_b : Option (List ℕ)) → (clock : ℕ) → Started
started x number_a number_b clock = record {
  days = recorded x;
  first = last_kept x;
  issued = issued_bytes x;
  began = clock;
  image = x;
  number_a = number_a;
  number_b = number_b;
  mended = false;
}

-- once the unit was mended
abbrev pub once_mended : Started → Started
once_mended s = record s { mended = true }

-- a number is that of one of the cards
abbrev pub IsCards : Started → List ℕ → Type 0
IsCards s number = IsOneOf s.number_a s.number_b number

-- the owed rows of an image go on from the start's
abbrev pub HasRowsOn : Started → List ℕ → Type 0
HasRowsOn s x = RowsGoOn (IsOneOf s.number_a s.number_b) s.image (rows_in x) (last_kept x)

-- and no cell of one that stands since the start is later than the last-kept minute was then
abbrev pub HasRowsMended : Started → List ℕ → Type 0
HasRowsMended s x = AreMended (IsOneOf s.number_a s.number_b) s.image (rows_in x)

-- a unit as it is seen where the cards have these numbers
abbrev pub seen_unit : (number_a number_b : List ℕ) → State → Seen UnitView
seen_unit number_a number_b unit = seen (unit_view number_a number_b) unit

-- the unit's rule holds of it while the book stands so, and no minute before this one is decided next
abbrev pub IsRuled : Started → (due : ℕ) → Book → Seen UnitView → Type 0
IsRuled s due b unit = UnitHolds (FillsDays s.days) s.first s.began due b unit

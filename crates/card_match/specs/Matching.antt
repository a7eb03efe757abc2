-- When the entries of a card file match the minutes of a unit file (profile).
use Rattle.std.specs.Prelude.{◌≡◌, ℕ, ◌==◌, ◌&&◌, not, nat_le, Bool, true, false, Option, Some, None, List, []}
use Rattle.std.specs.Prelude.{◌∷◌, ◌++◌, if◌then◌else◌, count_by}
use Rattle.std.specs.List.{list_any, AllByRecursion}
use Rattle.activity_codec.specs.Activity.{same_activity}
use Rattle.activity_codec.specs.declared.entries.Entry.{Entry}
use Rattle.activity_codec.specs.declared.values.Slot.{Slot}
use Rattle.activity_codec.specs.declared.values.Slot.TheVariants.{Driver, CoDriver}
use Rattle.view_model.specs.declared.State.{State}
use Rattle.view_model.specs.Lines.{same_bool, day_of_minute}
use Rattle.unit_model.specs.Days.{UnitMinute}
use Rattle.card_match.specs.declared.cases.Use.{Use}
use Rattle.card_match.specs.declared.verdict.Matched.{Matched}
use Rattle.card_match.specs.declared.verdict.Matched.TheVariants.{Yes, No}

-- what a card's entries are matched against: the uses of the unit's vehicle that the card tells, and the minutes of the
-- unit file
pub record Against : Type 0 where
  pub uses : List Use
  pub minutes : List UnitMinute

-- a minute lies in a use, its first and its last minute included
abbrev pub is_within : ℕ → Use → Bool
is_within minute u = nat_le u.first minute && nat_le minute u.last

-- an entry is own where its minute lies in a use of the unit's vehicle
abbrev pub is_own : Against → Entry → Bool
is_own a e = list_any (is_within e.minute) a.uses

-- no minute of the unit file lies on the entry's day or an earlier one
abbrev pub is_early : Against → Entry → Bool
is_early a e = not (list_any (λ m. nat_le (day_of_minute m.minute) (day_of_minute e.minute)) a.minutes)

-- an entry in no such use
abbrev pub is_other : Against → Entry → Bool
is_other a e = not (is_own a e)

-- an own entry that is early is before the file
abbrev pub is_before : Against → Entry → Bool
is_before a e = is_own a e && is_early a e

-- each other own entry is tested
abbrev pub is_tested : Against → Entry → Bool
is_tested a e = is_own a e && not (is_early a e)

-- the first of a unit's minutes with this number
abbrev pub minute_at : List UnitMinute → ℕ → Option UnitMinute
minute_at [] minute = None
minute_at (m ∷ ms) minute = if m.minute == minute then Some m else minute_at ms minute

-- what a minute of a unit knows of a slot
abbrev pub state_in : Slot → UnitMinute → State
state_in Driver m = m.driver
state_in CoDriver m = m.codriver

-- a unit's minute is as an entry has it: a card present in its slot, the same activity, the same crew
abbrev pub is_as : Entry → UnitMinute → Bool
is_as e m = (state_in e.slot m).present && same_activity (state_in e.slot m).act e.act && same_bool m.crew e.crew

-- the unit has the minute, and it is as the entry has it
abbrev pub is_as_some : Entry → Option UnitMinute → Bool
is_as_some e None = false
is_as_some e (Some m) = is_as e m

-- an entry stands in the unit file: that has its minute, and the first such minute is as the entry has it
abbrev pub stands : Against → Entry → Bool
stands a e = is_as_some e (minute_at a.minutes e.minute)

-- an entry is not tested, or stands
abbrev pub IsMet : Against → Entry → Type 0
IsMet a e = is_tested a e ≡ true → stands a e ≡ true

-- the first tested entry that does not stand
pub record IsFirstMiss (a : Against) (entries : List Entry) (minute : ℕ) (slot : Slot) : Type 0 where
  pub before : List Entry
  pub entry : Entry
  pub behind : List Entry
  pub here : entries ≡ before ++ entry ∷ behind
  pub met : AllByRecursion (IsMet a) before
  pub tested : is_tested a entry ≡ true
  pub missed : stands a entry ≡ false
  pub minute_is : minute ≡ entry.minute
  pub slot_is : slot ≡ entry.slot

-- each tested entry stands, and so many are tested, other, before
pub record AreMet (a : Against) (entries : List Entry) (tested other before : ℕ) : Type 0 where
  pub met : AllByRecursion (IsMet a) entries
  pub tested_are : tested ≡ count_by (is_tested a) entries
  pub other_are : other ≡ count_by (is_other a) entries
  pub before_are : before ≡ count_by (is_before a) entries

-- the answer to a match
abbrev pub IsMatch : Against → List Entry → Matched → Type 0
IsMatch a entries (Yes tested other before) = AreMet a entries tested other before
IsMatch a entries (No minute slot) = IsFirstMiss a entries minute slot

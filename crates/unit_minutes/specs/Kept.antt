-- A minute that is kept: CREW is where both slots have a present card (Annex IB, section III).
use Rattle.std.specs.Prelude.{ℕ, List, ◌+◌, ◌*◌, Bool, not, ◌&&◌}
use Rattle.activity_codec.specs.declared.values.Activity.{Activity}
use Rattle.activity_codec.specs.Words.{bit, activity_number}
use Rattle.view_model.specs.declared.State.{State}
use Rattle.unit_model.specs.Days.{UnitMinute}
use Rattle.unit_minutes.specs.declared.kept.KeptMinute.{KeptMinute}
use Rattle.tach_media.specs.Plan.{Piece}
use Rattle.unit_minutes.specs.DaysWith.{HasDays, AreBetween}
use Rattle.unit_minutes.specs.declared.notes.Notes.{Notes}
use Rattle.unit_minutes.specs.Coming.{SlotBits, Coming}
use Rattle.unit_minutes.specs.Plans.{keeping}

-- a minute is CREW where both slots have a card
abbrev pub is_crew : KeptMinute → Bool
is_crew k = k.driver.present && k.codriver.present

-- as a minute of the unit
abbrev pub kept_minute : KeptMinute → UnitMinute
kept_minute k = record { minute = k.minute; driver = k.driver; codriver = k.codriver; crew = is_crew k }

-- the bits of a state in a word: CREW, no card, activity
abbrev pub bits_by : Activity → (present crew : Bool) → ℕ
bits_by act present crew = 8 * bit crew + 4 * bit (not present) + activity_number act

-- so of a slot's state, in a minute that is CREW or not
abbrev pub bits_of : State → Bool → ℕ
bits_of s crew = bits_by s.act s.present crew

-- the bits of both slots
abbrev pub slot_bits : KeptMinute → SlotBits
slot_bits k = record { driver = bits_of k.driver (is_crew k); codriver = bits_of k.codriver (is_crew k) }

-- the minute as it is written
abbrev pub coming_of : KeptMinute → Coming
coming_of k = record { minute = k.minute; bits = slot_bits k; odometer = k.odometer.0 }

-- a minute of the unit so, with an odometer value
abbrev pub written_at : (odometer : ℕ) → UnitMinute → Coming
written_at odometer u = record {
  minute = u.minute;
  bits = record { driver = bits_of u.driver u.crew; codriver = bits_of u.codriver u.crew };
  odometer = odometer;
}

-- what a `keep` of this minute leaves in the day slots
abbrev pub HasDaysWith : KeptMinute → List ℕ → List ℕ → Type 0
HasDaysWith k x y = HasDays (coming_of k) x y

-- and at each moment
abbrev pub HasDaysBetween : KeptMinute → List ℕ → List ℕ → Type 0
HasDaysBetween k x c = AreBetween (coming_of k) x c

-- its writes
abbrev pub keeping_of : Notes → KeptMinute → (x : List ℕ) → List Piece
keeping_of j k x = keeping j (coming_of k) x

-- What a unit file tells of places, events and faults, as marks of a picture (profile).
use Rattle.std.specs.Prelude.{◌≡◌, ℕ, ◌%◌, ◌==◌, if◌then◌else◌, List, [], ◌∷◌, ◌++◌, map}
use Rattle.card_layout.specs.Images.{number_at}
use Rattle.message_model.specs.Messages.{Message, DayMessage, EventMessage, AnOverview, ADay, AnEventList, ASpeedList}
use Rattle.message_model.specs.Messages.{ATechnical, AreEntries, counted, IsUnitFile}
use Rattle.view_model.specs.declared.marks.Sign.{Sign}
use Rattle.view_model.specs.declared.marks.Sign.TheVariants as sign
use Rattle.view_model.specs.declared.marks.Mark.{Mark}
use Rattle.unit_marks.specs.declared.entries.Kind.{Kind}
use Rattle.unit_marks.specs.declared.entries.Kind.TheVariants.{Place, Event, Fault}
use Rattle.unit_marks.specs.declared.entries.TheConstants.{ENTRY_TIME, ENTRY_TYPE, COUNTRY}
use Rattle.unit_marks.specs.Marks.{kind_in, begin_in}

-- a daily work period begins where the type of a place is even, else it ends (Annex IB, Appendix 1,
-- EntryTypeDailyWorkPeriod)
abbrev pub sign_of : (type : ℕ) → Sign
sign_of type = if type % 2 == 0 then sign.Begin else sign.End

-- THE MARK of an entry: of a place its time and its country, of an event or a fault its begin and its type
abbrev pub mark_of : Kind → List ℕ → Mark
mark_of Place entry = record {
  sign = sign_of (number_at entry ENTRY_TYPE 1);
  code = number_at entry COUNTRY 1;
  second = number_at entry ENTRY_TIME 4;
}
mark_of Event entry = record { sign = sign.Event; code = kind_in entry; second = begin_in entry }
mark_of Fault entry = record { sign = sign.Fault; code = kind_in entry; second = begin_in entry }

-- the marks of the places of a day
abbrev pub place_marks : DayMessage → List Mark
place_marks m = map (mark_of Place) m.places

-- those of the faults, the events and the over speedings of a message
abbrev pub event_marks : EventMessage → List Mark
event_marks m = map (mark_of Fault) m.faults ++ map (mark_of Event) m.events ++ map (mark_of Event) m.overs

-- THE MARKS of messages, in their order
abbrev pub marks_told : List Message → List Mark
marks_told [] = []
marks_told (ADay m ∷ ms) = place_marks m ++ marks_told ms
marks_told (AnEventList m ∷ ms) = event_marks m ++ marks_told ms
marks_told (AnOverview m ∷ ms) = marks_told ms
marks_told (ASpeedList m ∷ ms) = marks_told ms
marks_told (ATechnical m ∷ ms) = marks_told ms

-- the bytes are a unit file that tells these marks
pub record TellsEntries (bytes : List ℕ) (marks : List Mark) : Type 0 where
  pub messages : List Message
  pub file : IsUnitFile messages bytes
  pub marks_are : marks ≡ marks_told messages

-- so many entries of a size stand at the front, behind their count of so many bytes
pub record BeginWith (width size : ℕ) (entries : List (List ℕ)) (bytes : List ℕ) : Type 0 where
  pub are : AreEntries width size entries
  pub rest : List ℕ
  pub spelled : bytes ≡ counted width entries ++ rest

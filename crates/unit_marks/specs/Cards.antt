-- What a card file tells of places, events and faults, as marks of a picture (profile).
use Rattle.std.specs.Prelude.{◌≡◌, ℕ, zero, suc, ◌/◌, ◌==◌, if◌then◌else◌, Option, Some, None, List, [], ◌∷◌, ◌++◌}
use Rattle.std.specs.Prelude.{length, take, drop}
use Rattle.card_layout.specs.Images.{number_at}
use Rattle.card_layout.specs.declared.files.Application.{Application}
use Rattle.card_image.specs.CardFile.{FileEntry, IsCardFile}
use Rattle.view_model.specs.declared.marks.Sign.TheVariants as sign
use Rattle.view_model.specs.declared.marks.Mark.{Mark}
use Rattle.unit_marks.specs.declared.entries.Kind.{Kind}
use Rattle.unit_marks.specs.declared.entries.Kind.TheVariants.{Place, Event, Fault}
use Rattle.unit_marks.specs.declared.cards.TheConstants.{CARD_PLACE, CARD_EVENT, POINTER, CARD_EVENT_BEGIN}
use Rattle.unit_marks.specs.declared.cards.TheConstants.{CARD_ENTRY_TIME, CARD_ENTRY_TYPE, CARD_COUNTRY}
use Rattle.unit_marks.specs.Entries.{sign_of}

-- how many bytes a record has
abbrev pub card_width : Kind → ℕ
card_width Place = CARD_PLACE
card_width Event = CARD_EVENT
card_width Fault = CARD_EVENT

-- how many bytes stand in front of the records: the pointer, which the places have alone
abbrev pub pointer_width : Kind → ℕ
pointer_width Place = POINTER
pointer_width Event = 0
pointer_width Fault = 0

-- THE MARK of a record: of a place its time and its country, of an event or a fault its begin and its type
abbrev pub card_mark : Kind → List ℕ → Mark
card_mark Place entry = record {
  sign = sign_of (number_at entry CARD_ENTRY_TYPE 1);
  code = number_at entry CARD_COUNTRY 1;
  second = number_at entry CARD_ENTRY_TIME 4;
}
card_mark Event entry = record {
  sign = sign.Event;
  code = number_at entry 0 1;
  second = number_at entry CARD_EVENT_BEGIN 4;
}
card_mark Fault entry = record {
  sign = sign.Fault;
  code = number_at entry 0 1;
  second = number_at entry CARD_EVENT_BEGIN 4;
}

-- a record whose time is 0 was never written
abbrev pub if_written : Mark → List Mark
if_written mark = if mark.second == 0 then [] else mark ∷ []

-- those of so many records of a width, one after the other
unfoldable pub records_marks : (count width : ℕ) → Kind → List ℕ → List Mark
records_marks zero width kind bytes = []
records_marks (suc count) width kind bytes = if_written (card_mark kind (take width bytes))
    ++ records_marks count width kind (drop width bytes)

-- of as many records as are there whole
abbrev pub list_marks : Kind → List ℕ → List Mark
list_marks kind bytes = records_marks (length bytes / card_width kind) (card_width kind) kind bytes

-- what a file's records are, by its identifier (Annex IB, Appendix 2, section 4); a signature has none
abbrev pub kind_by : (fid : ℕ) → Option Kind
kind_by fid = if fid == 0x0502 then Some Event
    else (if fid == 0x0503 then Some Fault else (if fid == 0x0506 then Some Place else None))

-- what a file's records are; those of a signature are none
abbrev pub kind_told : (fid kind : ℕ) → Option Kind
kind_told fid kind = if kind == 0 then kind_by fid else None

-- the marks of a file's value, behind its pointer
abbrev pub value_marks : Option Kind → List ℕ → List Mark
value_marks None value = []
value_marks (Some kind) value = list_marks kind (drop (pointer_width kind) value)

-- the marks of a file
abbrev pub file_marks : FileEntry → List Mark
file_marks e = value_marks (kind_told e.fid e.kind) e.value

-- THE MARKS of files, in their order
abbrev pub files_marks : List FileEntry → List Mark
files_marks [] = []
files_marks (e ∷ es) = file_marks e ++ files_marks es

-- the bytes are a card file that tells these marks
pub record TellsCardEntries (bytes : List ℕ) (marks : List Mark) : Type 0 where
  pub app : Application
  pub days : List ℕ
  pub vehicles : List ℕ
  pub entries : List FileEntry
  pub file : IsCardFile app days vehicles entries bytes
  pub marks_are : marks ≡ files_marks entries

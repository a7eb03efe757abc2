-- The text of lines (profile).
use Rattle.std.specs.Prelude.{◌≡◌, ℕ, List, [], ◌∷◌, ◌++◌, drop, slice_index, codes, decimal}
use Rattle.calendar_days.specs.Calendar.{IsDateText}
use Rattle.calendar_days.specs.Clock.{clock_text, seconds_text}
use Rattle.tacho_types.specs.declared.card_number.FullCardNumber.{FullCardNumber}
use Rattle.tacho_types.specs.declared.texts.Registration.{Registration}
use Rattle.state_text.specs.declared.line.Line.{Line}
use Rattle.state_text.specs.declared.line.OwedTo.{OwedTo}
use Rattle.state_text.specs.declared.line.Value.{Value}
use Rattle.state_text.specs.declared.line.Value.TheVariants.{Valid, Unread, BadAt, BadField, BadFile, Nothing, Count}
use Rattle.state_text.specs.declared.line.Value.TheVariants.{ByRule, Vin, Plate, Card, Holder, Owed, Day, Minute}
use Rattle.state_text.specs.declared.line.Value.TheVariants.{Second}
use Rattle.run_model.specs.Names.{device_name}
use Rattle.state_text.specs.Lines.{name_text, rule_name, day_of}
use Rattle.state_text.specs.Shown.{four_hex, shown}

-- a registration: the nation's number and the plate, as `13 M-AB-1`; between them stands the code page, which is not
-- told
abbrev pub plate_text : Registration → List ℕ
plate_text r = decimal (slice_index r.0 0) ++ codes " " ++ shown (drop 2 r.0)

-- a card's number: that of the state that issued it, and its own, as `17 0123456789ABCDEF`
abbrev pub card_text : FullCardNumber → List ℕ
card_text c = decimal c.state.0 ++ codes " " ++ shown c.number

-- the card, and how many minutes are owed to it
abbrev pub owed_text : OwedTo → List ℕ
owed_text o = card_text o.card ++ codes " " ++ decimal o.minutes

-- `bad file 0504 at 12`
abbrev pub bad_file_text : (fid place : ℕ) → List ℕ
bad_file_text fid place = codes "bad file " ++ four_hex fid ++ codes " at " ++ decimal place

-- a minute of the day of a date: `2010-03-01T07:29Z`
abbrev pub minute_text : (date : List ℕ) → ℕ → List ℕ
minute_text date minute = date ++ codes "T" ++ clock_text minute ++ codes "Z"

-- a second of the day of a date: `2010-03-01T07:29:59Z`
abbrev pub second_text : (date : List ℕ) → ℕ → List ℕ
second_text date second = date ++ codes "T" ++ seconds_text second ++ codes "Z"

-- a value, which lies on the day of this date
abbrev pub value_text : (date : List ℕ) → Value → List ℕ
value_text date Valid = codes "valid"
value_text date Unread = codes "unread"
value_text date (BadAt place) = codes "bad at " ++ decimal place
value_text date (BadField field) = codes "bad field " ++ decimal field
value_text date (BadFile fid place) = bad_file_text fid place
value_text date Nothing = codes "-"
value_text date (Count n) = decimal n
value_text date (ByRule rule) = rule_name rule
value_text date (Vin vin) = shown vin
value_text date (Plate registration) = plate_text registration
value_text date (Card number) = card_text number
value_text date (Holder name) = shown (drop 1 name.0)
value_text date (Owed owed) = owed_text owed
value_text date (Day day) = date
value_text date (Minute minute) = minute_text date minute
value_text date (Second second) = second_text date second

-- the device's name, the line's, and the value
abbrev pub line_text : (date : List ℕ) → Line → List ℕ
line_text date line = device_name line.device ++ name_text line.name ++ codes " " ++ value_text date line.value
    ++ codes "\n"

-- a line at the end of a text
abbrev pub AddsLine : (old new : List ℕ) → Line → Type 0
AddsLine old new line = (date : List ℕ) × IsDateText (day_of line.value) date × (new ≡ old ++ line_text date line)

-- THE TEXT OF LINES, one after the other
abbrev pub AreLinesText : List Line → List ℕ → Type 0
AreLinesText [] text = text ≡ []
AreLinesText (line ∷ lines) text =
    (date : List ℕ) × (rest : List ℕ) × IsDateText (day_of line.value) date × (text ≡ line_text date line ++ rest)
    × AreLinesText lines rest

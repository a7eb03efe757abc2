-- What is shown of a unit file.
use Rattle.std.specs.Prelude.{◌≡◌, ℕ, ◌+◌, ◌*◌, ◌/◌, ◌≤◌, ◌==◌, Bool, not, false, Option, Some, None, List, [], ◌∷◌}
use Rattle.std.specs.Prelude.{◌++◌, length, drop, filter}
use Rattle.activity_codec.specs.declared.values.Activity.TheVariants.{Rest}
use Rattle.activity_codec.specs.declared.words.Change.{Change}
use Rattle.view_model.specs.declared.State.{State}
use Rattle.unit_model.specs.Days.{UnitMinute, slot_bit, minutes_shown}
use Rattle.unit_model.specs.Image.{words_at}
use Rattle.message_model.specs.Messages.{Message, DayMessage, message_bytes, IsDayMessage, IsUnitFile}
use Rattle.message_model.specs.Showing.{minutes_in, time_in}
use Rattle.file_view.specs.declared.unit.DayAt.{DayAt}
use Rattle.unit_messages.specs.Reading.{BeginsWith}
use Rattle.file_view.specs.declared.unit.Told.{Told}
use Rattle.file_view.specs.declared.unit.SlotWords.{SlotWords}
use Rattle.file_view.specs.Deciding.{Decides}
use Rattle.file_view.specs.UnitFiles.{last_minutes, days_told}

-- the minutes of all days, or of the last so many messages of days
abbrev pub minutes_told : Option ℕ → List Message → List UnitMinute
minutes_told None messages = minutes_in messages
minutes_told (Some n) messages = last_minutes n messages

-- the bytes are a unit file, of which these minutes are shown
pub record ShowsUnitFile (last : Option ℕ) (bytes : List ℕ) (shown : List UnitMinute) : Type 0 where
  pub messages : List Message
  pub file : IsUnitFile messages bytes
  pub shown_are : shown ≡ minutes_told last messages

-- a message of a day tells this date, and its words stand there
pub record IsStoredAt (bytes : List ℕ) (day : DayAt) (m : DayMessage) : Type 0 where
  pub is : IsDayMessage m
  pub date : day.date ≡ m.date
  pub words : m.words ≡ words_at bytes day.place day.words
  pub inside : day.place + 2 * day.words ≤ length bytes

-- these messages of days stand there, one each
abbrev pub AreStored : List ℕ → List DayAt → List DayMessage → Type 0
AreStored bytes [] ms = ms ≡ []
AreStored bytes (d ∷ ds) [] = ⊥
AreStored bytes (d ∷ ds) (m ∷ ms) = IsStoredAt bytes d m × AreStored bytes ds ms

-- what was told by these messages: the time of the first overview, and the days
pub record AreTold (bytes : List ℕ) (messages : List Message) (told : Told) : Type 0 where
  pub time : told.time ≡ time_in messages
  pub days : AreStored bytes told.days.items (days_told messages)

-- the first of two times
abbrev pub first_time : Option ℕ → Option ℕ → Option ℕ
first_time None time = time
first_time (Some first) time = Some first

-- behind these messages one more was taken, which stands at a place and ends there
pub record IsTaken (bytes : List ℕ) (before : List Message) (place end : ℕ) (told : Told) : Type 0 where
  pub message : Message
  pub begins : BeginsWith message (drop place bytes)
  pub end_is : end ≡ place + length (message_bytes message)
  pub inside : end ≤ length bytes
  pub told_is : AreTold bytes (before ++ message ∷ []) told

-- how many minutes a message of a day with this date shows
abbrev pub minutes_of_day : ℕ → Option ℕ → ℕ
minutes_of_day date None = 1440
minutes_of_day date (Some now) = minutes_shown (now / 60) (date / 86400)

-- the words of a slot, in their order
abbrev pub slot_words : ℕ → List ℕ → List ℕ
slot_words slot words = filter (λ w. slot_bit w == slot) words

-- the state of a slot by the change that decides: rest, with no card, where none does
abbrev pub state_by : Option Change → State
state_by None = record { act = Rest; present = false }
state_by (Some c) = record { act = c.act; present = not c.absent }

-- whether the change that decides tells a crew
abbrev pub crew_by : Option Change → Bool
crew_by None = false
crew_by (Some c) = c.crew_or_known

-- the words of each slot decide its minutes
abbrev pub SlotsDecide : SlotWords → List ℕ → Type 0
SlotsDecide slots words = Decides slots.driver (slot_words 0 words) × Decides slots.codriver (slot_words 1 words)

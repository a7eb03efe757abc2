-- What the messages of a unit file tell of a minute, and of a day (profile).
use Rattle.std.specs.Prelude.{ℕ, ◌/◌, ◌%◌, ◌==◌, nat_lt, Bool, Option, Some, None, List, [], ◌∷◌, if◌then◌else◌}
use Rattle.std.specs.List.{list_any}
use Rattle.unit_model.specs.Days.{UnitMinute, minute_at as minute_of}
use Rattle.view_model.specs.Lines.{day_of_minute}
use Rattle.message_model.specs.Messages.{Message, DayMessage}
use Rattle.message_model.specs.Showing.{time_in, told_day, minutes_in}
use Rattle.file_view.specs.UnitFiles.{days_told}
use Rattle.file_view.specs.UnitShowing.{minutes_of_day}

-- the first of the messages of days that is of this one
abbrev pub first_message : List DayMessage → (day : ℕ) → Option DayMessage
first_message [] day = None
first_message (m ∷ ms) day = if m.date / 86400 == day then Some m else first_message ms day

-- what a message tells of a minute of its day; nothing, where that is not shown, since it is later than the time of the
-- first overview
abbrev pub minute_by : (now : Option ℕ) → (minute : ℕ) → Option DayMessage → Option UnitMinute
minute_by now minute None = None
minute_by now minute (Some m) = if nat_lt (minute % 1440) (minutes_of_day m.date now)
    then Some (minute_of (told_day m) (minute % 1440)) else None

-- what the messages of a file tell of a minute: the first one of its day does
abbrev pub minute_by_message : List Message → (minute : ℕ) → Option UnitMinute
minute_by_message messages minute = minute_by (time_in messages) minute
    (first_message (days_told messages) (minute / 1440))

-- a message is of this day
abbrev pub has_message : List Message → (day : ℕ) → Bool
has_message messages day = list_any (λ m. m.date / 86400 == day) (days_told messages)

-- a minute of the file lies on this day
abbrev pub has_minute : List Message → (day : ℕ) → Bool
has_minute messages day = list_any (λ m. day_of_minute m.minute == day) (minutes_in messages)

-- The minutes that a unit file shows.
use Rattle.std.specs.Prelude.{ℕ, ◌/◌, Option, Some, None, List, [], ◌∷◌, flat_map}
use Rattle.unit_model.specs.Days.{StoredDay, UnitMinute, shown, day_shown}
use Rattle.message_model.specs.Messages.{Message, AnOverview, ADay, AnEventList, ASpeedList, ATechnical, DayMessage}

-- the time that the first overview tells, if there is one
abbrev pub time_in : List Message → Option ℕ
time_in [] = None
time_in (AnOverview m ∷ ms) = Some m.now
time_in (ADay m ∷ ms) = time_in ms
time_in (AnEventList m ∷ ms) = time_in ms
time_in (ASpeedList m ∷ ms) = time_in ms
time_in (ATechnical m ∷ ms) = time_in ms

-- a day as its message tells it
abbrev pub told_day : DayMessage → StoredDay
told_day m = record { date = m.date; odometer = m.odometer; words = m.words }

-- all minutes of a day, or those up to the minute of the unit's time where that lies in the day; a slot without a word
-- has rest, no card, single; of several words of a slot the last in their order that is not later decides; CREW is that
-- of the driver's word
abbrev pub day_minutes : Option ℕ → StoredDay → List UnitMinute
day_minutes None d = (shown 1440 d).minutes
day_minutes (Some now) d = (day_shown (now / 60) d).minutes

-- the minutes of a message, where it is that of a day
abbrev pub minutes_told : Option ℕ → Message → List UnitMinute
minutes_told now (ADay m) = day_minutes now (told_day m)
minutes_told now (AnOverview m) = []
minutes_told now (AnEventList m) = []
minutes_told now (ASpeedList m) = []
minutes_told now (ATechnical m) = []

-- the minutes of a unit file: those of its days, in their order
abbrev pub minutes_in : List Message → List UnitMinute
minutes_in messages = flat_map (minutes_told (time_in messages)) messages

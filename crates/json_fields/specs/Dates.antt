-- The calendar: the date of a day by its number, and a second as text.
use Rattle.std.specs.Prelude.{ℕ, zero, suc, ◌+◌, ◌/◌, ◌%◌, nat_lt, if◌then◌else◌, pos, List, [], ◌∷◌, ◌++◌}
use Rattle.jiff.specs.Words.{days_in_month}
use Rattle.activity_codec.specs.declared.day.TheConstants.{DAY_SECONDS}
use Rattle.calendar_days.specs.Clock.{two_digits, seconds_text}

-- a day of the calendar: its year, its month from 1, and its day of the month from 1
pub record CivilDay : Type 0 where
  pub year : ℕ
  pub month : ℕ
  pub day : ℕ

-- the day after it: the next of its month, else the first of the next month, else the first of the next year
abbrev pub next_day : CivilDay → CivilDay
next_day d =
    if nat_lt d.day (days_in_month (pos d.year) d.month) then record { year = d.year; month = d.month; day = d.day + 1 }
    else (if nat_lt d.month 12 then record { year = d.year; month = d.month + 1; day = 1 }
    else record { year = d.year + 1; month = 1; day = 1 })

-- THE DATE OF A DAY by its number since 1970-01-01: so many days after it
unfoldable pub date_of : ℕ → CivilDay
date_of zero = record { year = 1970; month = 1; day = 1 }
date_of (suc day) = next_day (date_of day)

-- a date: `2010-03-01`
abbrev pub date_text : CivilDay → List ℕ
date_text d = two_digits (d.year / 100) ++ two_digits (d.year % 100) ++ 45 ∷ [] ++ two_digits d.month ++ 45 ∷ []
    ++ two_digits d.day

-- what stands behind the date of a second: `T07:29:59Z`
abbrev pub clock_of : ℕ → List ℕ
clock_of second = 84 ∷ seconds_text second ++ 90 ∷ []

-- A TIME in seconds since 1970-01-01: `2010-03-01T07:29:59Z`
abbrev pub time_text : ℕ → List ℕ
time_text second = date_text (date_of (second / DAY_SECONDS)) ++ clock_of second

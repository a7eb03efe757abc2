-- What a unit's days are to show of the history (profile).
use Rattle.std.specs.Prelude.{◌≡◌, ◌-◌, ◌/◌, ◌<◌, Option, List, map, length, is_some, option_to_list}
use Rattle.view_model.specs.declared.State.{State}
use Rattle.unit_model.specs.declared.layout.TheConstants.{DAY_SLOTS}
use Rattle.unit_model.specs.Days.{ShownDay, UnitMinute, filled_all, newest_days}
use Rattle.unit_model.specs.Retention.{UnitRetains, retained, last_day}
use Rattle.history_model.specs.Minutes.{HistoryMinute, Seat, is_crew}

-- a slot as the unit holds it: the activity, and whether a card was present
abbrev pub seat_state : Seat → State
seat_state seat = record { act = seat.act; present = is_some seat.card }

-- a minute of the history as the unit holds it
abbrev pub seen_by_unit : HistoryMinute → UnitMinute
seen_by_unit i = record {
  minute = i.minute;
  driver = seat_state i.driver;
  codriver = seat_state i.codriver;
  crew = is_crew i;
}

-- the days at the start, filled with these minutes
abbrev pub filled_with : List ShownDay → List HistoryMinute → List ShownDay
filled_with start past = filled_all start (map seen_by_unit past)

-- these days are what is retained of them, where this minute may come next
abbrev pub FillsDays : List ShownDay → Option HistoryMinute → List HistoryMinute → List ShownDay → Type 0
FillsDays start next past days = UnitRetains (filled_with start past) (map (λ i. i.minute) (option_to_list next)) days

-- a minute is kept: the days with it, of which the newest 366 are retained
abbrev pub KeepsMinute : HistoryMinute → List ShownDay → List ShownDay → Type 0
KeepsMinute i old new = new ≡ retained old (seen_by_unit i)

-- before a minute is kept that begins a further day, the oldest of 366 is given up
pub record GivesUpDay (i : HistoryMinute) (old new : List ShownDay) : Type 0 where
  pub full : length old ≡ DAY_SLOTS
  pub further : last_day old < i.minute / 1440
  pub given : new ≡ newest_days (DAY_SLOTS - 1) old

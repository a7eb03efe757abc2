-- The events of a power span with the cards of their seconds, and what is kept of them (Annex IB, section III.12;
-- profile).
use Rattle.std.specs.Prelude.{◌≡◌, ℕ, ◌<◌, Bool, not, ◌&&◌, Option, Some, None, option_map, List, [], ◌∷◌, fold, map}
use Rattle.std.specs.Prelude.{nat_lt, is_some, ◌+◌, ◌%◌, ◌≤◌, ◌^◌}
use Rattle.std.specs.List.{filter_map, AllByRecursion}
use Rattle.event_model.specs.declared.entries.Over.{Over}
use Rattle.event_model.specs.declared.entries.Span.{Span}
use Rattle.event_model.specs.Runs.{last_run, ended_runs}
use Rattle.event_model.specs.Spans.{DriverSecond, SpeedSecond, bare_of, over_of, in_a_row}
use Rattle.event_rules.specs.Bare as bare_feed
use Rattle.event_rules.specs.Speeding as over_feed
use Rattle.speed_store.specs.Feeding as minute
use Rattle.run_crew.specs.declared.cards.Crew.{Crew}
use Rattle.run_events.specs.declared.watch.Ended.{Ended}
use Rattle.run_events.specs.declared.watch.Watch.{Watch}

-- a second of a power span: its number, its speed, and the numbers of the accepted cards in it
pub record CrewSecond : Type 0 where
  pub number : ℕ
  pub speed : ℕ
  pub crew : Crew

-- n seconds at one speed with the same cards, from a number on
abbrev pub seconds_with : (number n speed : ℕ) → Crew → List CrewSecond
seconds_with number n speed crew = in_a_row (λ k. record { number = k; speed = speed; crew = crew }) number n

-- a vehicle moves at this speed, without an accepted card in the driver slot
abbrev pub is_bare_at : (speed : ℕ) → Crew → Bool
is_bare_at speed crew = nat_lt 0 speed && not (is_some crew.driver)

-- it does so in a second
abbrev pub is_bare : CrewSecond → Bool
is_bare s = is_bare_at s.speed s.crew

-- the speed of a second is above the limit
abbrev pub is_fast : (limit : ℕ) → CrewSecond → Bool
is_fast limit s = nat_lt limit s.speed

-- a second as driving without a card counts it
abbrev pub driver_second : CrewSecond → DriverSecond
driver_second s = record { number = s.number; bare = is_bare s }

-- a second as over speeding counts it
abbrev pub speed_second : CrewSecond → SpeedSecond
speed_second s = record { number = s.number; speed = s.speed }

-- no card
abbrev pub nobody : Crew
nobody = record { driver = None; codriver = None }

-- the cards at the first of some seconds, where there is one
abbrev pub first_crew : List CrewSecond → Option Crew
first_crew [] = None
first_crew (s ∷ run) = Some s.crew

-- the cards at the last of some seconds, nobody where there is none
abbrev pub last_crew : List CrewSecond → Crew
last_crew run = fold (λ last s. s.crew) nobody run

-- driving without a card, with the cards at its first second and at its last
pub record BareWith : Type 0 where
  pub span : Span
  pub begin : Crew
  pub end : Crew

-- an over speeding, with the cards at its first second and at its last
pub record OverWith : Type 0 where
  pub over : Over
  pub begin : Crew
  pub end : Crew

-- driving without a card over all of these seconds, if they are one
abbrev pub bare_with : List CrewSecond → Option BareWith
bare_with [] = None
bare_with (s ∷ run) = option_map {T = Span} {U = BareWith}
    (λ span. record { span = span; begin = s.crew; end = last_crew (s ∷ run) }) (bare_of (map driver_second (s ∷ run)))

-- an over speeding over all of these seconds, if they are one
abbrev pub over_with : List CrewSecond → Option OverWith
over_with [] = None
over_with (s ∷ run) = option_map {T = Over} {U = OverWith}
    (λ over. record { over = over; begin = s.crew; end = last_crew (s ∷ run) }) (over_of (map speed_second (s ∷ run)))

-- driving without a card that has ended among the seconds of a span
unfoldable pub bares_with : List CrewSecond → List BareWith
bares_with seconds = filter_map bare_with (ended_runs is_bare seconds)

-- the over speedings that have ended among them
unfoldable pub overs_with : (limit : ℕ) → List CrewSecond → List OverWith
overs_with limit seconds = filter_map over_with (ended_runs (is_fast limit) seconds)

-- a watch stands for these seconds of a span
pub record WatchesSpan (w : Watch) (seconds : List CrewSecond) : Type 0 where
  pub bare : bare_feed.CountsDriverSeconds w.bare (map driver_second seconds)
  pub over : over_feed.CountsSpeedSeconds w.over (map speed_second seconds)
  pub bare_begin : w.bare_begin ≡ first_crew (last_run is_bare seconds)
  pub over_begin : w.over_begin ≡ first_crew (last_run (is_fast w.over.limit) seconds)
  pub last : w.last ≡ last_crew seconds

-- a watch stands for some seconds, none of them at 0, and the next one it may be fed
pub record WatchesEvents (w : Watch) (next : ℕ) : Type 0 where
  pub seconds : List CrewSecond
  pub stands : WatchesSpan w seconds
  pub bare_next : bare_feed.IsNext w.bare next
  pub over_next : over_feed.IsNext w.over.run next
  pub late : AllByRecursion (λ (s : CrewSecond). 0 < s.number) seconds

-- so it does, and its speeds stand for those of the minute that goes on
pub record Watches (w : Watch) (next : ℕ) : Type 0 where
  pub events : WatchesEvents w next
  pub speeds : minute.Follows w.speeds next

-- driving without a card that has ended with the second before, with its cards
abbrev pub bare_ended : Ended → Option BareWith
bare_ended e = option_map {T = Span} {U = BareWith} (λ span. record { span = span; begin = e.bare_begin; end = e.end })
    e.bare

-- an over speeding that has ended with the second before, with its cards
abbrev pub over_ended : Ended → Option OverWith
over_ended e = option_map {T = Over} {U = OverWith} (λ over. record { over = over; begin = e.over_begin; end = e.end })
    e.over

-- SECONDS OF ONE MINUTE, so many from `first` on: there are some, behind the first minute, and each number fits its
-- field
pub record AreOfOneMinute (first n : ℕ) : Type 0 where
  pub some : 0 < n
  pub low : 60 ≤ first
  pub minute : first % 60 + n ≤ 60
  pub fits : first + n ≤ 2 ^ 32

-- THE WATCH STANDS at a second: what it was fed are the seconds before it, and its limit of speed is that of its feed
pub record WatchStands (w : Watch) (first : ℕ) : Type 0 where
  pub limit : w.limit ≡ w.over.limit
  pub watches : Watches w first

-- The events of a run in which no card bears on any second, by its power spans as they went (Annex IB, section III.12;
-- the moments: profile).
use Rattle.std.specs.Prelude.{◌≡◌, ℕ, ◌==◌, nat_lt, true, Option, Some, None, List, [], ◌∷◌, ◌++◌, map, flat_map}
use Rattle.std.specs.Prelude.{option_to_list, if◌then◌else◌}
use Rattle.std.specs.List.{AllByRecursion}
use Rattle.trace_model.specs.Trace.{TraceSecond}
use Rattle.minute_model.specs.Activity.{last}
use Rattle.log_model.specs.declared.lines.Break.{Break}
use Rattle.log_model.specs.Log.{RunLog, kept_after}
use Rattle.log_model.specs.Course.{ToldSecond}
use Rattle.log_model.specs.Causes.{is_cut}
use Rattle.event_model.specs.declared.kinds.TheConstants.{DRIVING_WITHOUT_CARD, OVER_SPEEDING, POWER_INTERRUPTION}
use Rattle.event_model.specs.declared.entries.Over.{Over}
use Rattle.event_model.specs.declared.entries.Span.{Span}
use Rattle.event_model.specs.Spans.{SpeedSecond, DriverSecond, overs_of, bares_of, gap_of}
use Rattle.event_model.specs.Events.{Crew, Event, noted_with}
use Rattle.run_unit_course.specs.Turn.{IsSelection}

-- no card in either slot
abbrev pub nobody : Crew
nobody = record { driver = None; codriver = None }

-- a second, and whether it is driven without a card: it is where the vehicle moves
abbrev pub driver_second : ToldSecond → DriverSecond
driver_second t = record { number = t.second.number; bare = nat_lt 0 t.second.speed }

-- a second with its speed
abbrev pub speed_second : ToldSecond → SpeedSecond
speed_second t = record { number = t.second.number; speed = t.second.speed }

-- so of each second of a span
abbrev pub driver_seconds : List ToldSecond → List DriverSecond
driver_seconds span = map driver_second span

-- each second of a span with its speed
abbrev pub speed_seconds : List ToldSecond → List SpeedSecond
speed_seconds span = map speed_second span

-- driving without a card from one second to another as an event
abbrev pub bare_event : Span → Event
bare_event s = noted_with DRIVING_WITHOUT_CARD s.begin s.end nobody

-- an over speeding as an event
abbrev pub over_event : Over → Event
over_event o = record {
  kind = OVER_SPEEDING;
  begin = o.begin;
  end = o.end;
  most = o.most;
  average = o.average;
  at_begin = nobody;
  at_end = nobody;
}

-- an interruption of power as an event
abbrev pub gap_event : Span → Event
gap_event s = noted_with POWER_INTERRUPTION s.begin s.end nobody

-- driving without a card that has ended in a span
abbrev pub bares_in : List ToldSecond → List Event
bares_in span = map bare_event (bares_of (driver_seconds span))

-- the over speedings that have ended in a span, by the limit in km/h
abbrev pub overs_in : (limit : ℕ) → List ToldSecond → List Event
overs_in limit span = map over_event (overs_of limit (speed_seconds span))

-- the interruption up to a second, where this minute was found kept
abbrev pub gap_to : (kept now : ℕ) → List Event
gap_to kept now = map gap_event (option_to_list (gap_of kept now))

-- the number of a last second, 0 without one
abbrev pub number_or_0 : Option ToldSecond → ℕ
number_or_0 None = 0
number_or_0 (Some t) = t.second.number

-- the last second of a span
abbrev pub last_in : List ToldSecond → ℕ
last_in span = number_or_0 (last span)

-- the interruption behind a span and before a second
abbrev pub gap_since : RunLog → List ToldSecond → (now : ℕ) → List Event
gap_since log span now = gap_to (kept_after log (last_in span)) now

-- and before a span
abbrev pub gap_between : RunLog → List ToldSecond → List ToldSecond → List Event
gap_between log span [] = []
gap_between log span (t ∷ next) = gap_since log span t.second.number

-- those between these spans
abbrev pub gaps_in : RunLog → List (List ToldSecond) → List Event
gaps_in log [] = []
gaps_in log (span ∷ []) = []
gaps_in log (span ∷ next ∷ spans) = gap_between log span next ++ gaps_in log (next ∷ spans)

-- the events of a type in these spans
abbrev pub plain_events : (kind limit : ℕ) → RunLog → List (List ToldSecond) → List Event
plain_events kind limit log spans =
    if kind == DRIVING_WITHOUT_CARD then flat_map bares_in spans
    else (if kind == OVER_SPEEDING then flat_map (overs_in limit) spans
    else (if kind == POWER_INTERRUPTION then gaps_in log spans else []))

-- no line of a log tells of a card: each break is a cut, and nothing was found
pub record IsWithoutCards (log : RunLog) : Type 0 where
  pub breaks : AllByRecursion (λ (b : Break). is_cut b ≡ true) log.breaks
  pub finds : log.finds ≡ []

-- no card bears on these seconds: all of their actions are selections
abbrev pub OnlySelect : List TraceSecond → Type 0
OnlySelect ss = AllByRecursion (λ (s : TraceSecond). AllByRecursion IsSelection s.actions) ss

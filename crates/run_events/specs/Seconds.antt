-- Which events one more second of a run brings, by type (Annex IB, section III.12; the moments: profile).
use Rattle.std.specs.Prelude.{◌≡◌, ◌⊎◌, ℕ, ◌+◌, ◌==◌, Bool, true, false, List, [], ◌∷◌, flat_map, map, if◌then◌else◌}
use Rattle.std.specs.List.{filter_map}
use Rattle.trace_model.specs.Trace.{TraceSecond}
use Rattle.log_model.specs.Log.{RunLog}
use Rattle.log_model.specs.Course.{Visit, went}
use Rattle.event_model.specs.declared.kinds.TheConstants.{DRIVING_WITHOUT_CARD, OVER_SPEEDING, POWER_INTERRUPTION}
use Rattle.event_model.specs.declared.kinds.TheConstants.{CARD_FAULT}
use Rattle.event_model.specs.Runs.{last_run, runs_behind}
use Rattle.event_model.specs.Spans.{is_above}
use Rattle.event_model.specs.Events.{Event, Seen, Tearing, number_of, last_number, seen_by, is_bare, bare_event}
use Rattle.event_model.specs.Events.{speed_second, over_event, gap_event, found_events, fault_of, torn_in_turn}

-- the last of these power spans
abbrev pub last_of : List (List Seen) → List Seen
last_of [] = []
last_of (span ∷ []) = span
last_of (span ∷ next ∷ spans) = last_of (next ∷ spans)

-- the seconds before one in its own power span
abbrev pub span_before : List (List Seen) → Seen → List Seen
span_before spans x = if x.told.starts then [] else last_of spans

-- driving without a card that ends with the second before one of these, behind those of a span
abbrev pub bares_by : (span xs : List Seen) → List Event
bares_by span xs = filter_map bare_event (runs_behind is_bare (last_run is_bare span) xs)

-- the speed of a second is above the limit
abbrev pub is_fast : (limit : ℕ) → Seen → Bool
is_fast limit x = is_above limit (speed_second x)

-- the over speedings that end with the second before one of these
abbrev pub overs_by : (limit : ℕ) → (span xs : List Seen) → List Event
overs_by limit span xs = filter_map over_event (runs_behind (is_fast limit) (last_run (is_fast limit) span) xs)

-- the interruption between these spans and a second with which power begins
abbrev pub gap_before : Tearing → RunLog → List (List Seen) → Seen → List Event
gap_before t log [] x = []
gap_before t log (span ∷ []) x = gap_event t log span (x ∷ [])
gap_before t log (span ∷ next ∷ spans) x = gap_before t log (next ∷ spans) x

-- the interruption that a second brings: that before it where power begins with it, else none
abbrev pub gap_by : Tearing → RunLog → List (List Seen) → Seen → List Event
gap_by t log spans x = if x.told.lit then (if x.told.starts then gap_before t log spans x else []) else []

-- the faults of the cards that were torn out in a second
abbrev pub faults_by : Tearing → RunLog → Seen → List Event
faults_by t log x = map (fault_of t log x) (torn_in_turn t x x.told.course.torn)

-- the events of a type that the judged cards of a second bring
abbrev pub found_by : (kind : ℕ) → (sessions : ℕ → Visit → ℕ) → Tearing → Seen → List Event
found_by kind sessions t x = flat_map (λ f. found_events kind (sessions (number_of x) f.0) t x f.0 f.1)
    x.told.course.found

-- WHAT A SECOND BRINGS behind these power spans
abbrev pub second_events : (kind limit : ℕ) → (sessions : ℕ → Visit → ℕ) → Tearing → RunLog → List (List Seen) → Seen
    → List Event
second_events kind limit sessions t log spans x =
    if kind == DRIVING_WITHOUT_CARD then (if x.told.lit then bares_by (span_before spans x) (x ∷ []) else [])
    else (if kind == OVER_SPEEDING then (if x.told.lit then overs_by limit (span_before spans x) (x ∷ []) else [])
    else (if kind == POWER_INTERRUPTION then gap_by t log spans x
    else (if kind == CARD_FAULT then faults_by t log x else found_by kind sessions t x)))

-- a second with power comes right behind those of its own span
abbrev pub IsBehind : List (List Seen) → Seen → Type 0
IsBehind spans x = x.told.lit ≡ true
    → (span_before spans x ≡ []) ⊎ (last_number (span_before spans x) + 1 ≡ number_of x)

-- one second more as its events see it
abbrev pub seen_next : RunLog → List TraceSecond → TraceSecond → Seen
seen_next log done s = seen_by log (went log done).before s

-- no card was judged or torn out in it, and none entered
pub record IsIdle (x : Seen) : Type 0 where
  pub found : x.told.course.found ≡ []
  pub torn : x.told.course.torn ≡ []
  pub entered : x.told.course.entered ≡ []

-- a second goes on its span, and nothing happens to a card
pub record IsQuiet (x : Seen) : Type 0 where
  pub idle : IsIdle x
  pub lit : x.told.lit ≡ true
  pub goes_on : x.told.starts ≡ false

-- a second is without power, and nothing happens to a card
pub record IsDarkSeen (x : Seen) : Type 0 where
  pub idle : IsIdle x
  pub lit : x.told.lit ≡ false

-- what quiet seconds behind those of a span bring
abbrev pub quiet_events : (kind limit : ℕ) → (span xs : List Seen) → List Event
quiet_events kind limit span xs = if kind == DRIVING_WITHOUT_CARD then bares_by span xs
    else (if kind == OVER_SPEEDING then overs_by limit span xs else [])

-- What is known of a run of a unit alone between two turns: how its book follows the history (profile).
use Rattle.std.specs.Prelude.{◌≡◌, ◌⊎◌, ℕ, ◌+◌, ◌-◌, ◌%◌, ◌/◌, ◌<◌, ◌≤◌, true, false, nat_lt, Some, None, List, [], ◌∷◌}
use Rattle.std.specs.Prelude.{◌++◌, length, take, map}
use Rattle.std.specs.List.{AllByRecursion}
use Rattle.trace_model.specs.declared.Action.{Action}
use Rattle.trace_model.specs.Trace.{TraceSecond}
use Rattle.minute_model.specs.declared.Rule.{Rule}
use Rattle.minute_model.specs.Activity.{last}
use Rattle.log_model.specs.declared.lines.Break.{Break}
use Rattle.log_model.specs.Log.{RunLog}
use Rattle.log_model.specs.Course.{ToldSecond, Before, has_power, went}
use Rattle.log_model.specs.Spans.{spans_of, AreInOrder}
use Rattle.history_model.specs.Minutes.{HistoryMinute}
use Rattle.history_model.specs.Presence.{Start}
use Rattle.history_model.specs.History.{decided_of, cut_second, any_long, lost_by, unit_history, with_lost}
use Rattle.history_model.specs.Growth.{closed_limit, closed_history}
use Rattle.history_model.specs.Book.{Book, Follows, AreLost}
use Rattle.run_unit_course.specs.Turn.{IsSelection, empty_slots, ArePlain}
use Rattle.run_unit_course.specs.Keeping.{plain}
use Rattle.run_unit_course.specs.Lines.{log_of, IsCutBefore, tells_cut}

-- whether the unit has power: with the seconds of the span so far, none where it begins with the next second; or none,
-- but from the next second on that the trace gives it power; or none, since a call failed, before the next minute or an
-- `off` line
pub data UnitPower : Type 0 where
  Lit : List ToldSecond → UnitPower
  Due : UnitPower
  Lost : UnitPower

-- how far a run has gone: its breaks, from which index on it is not known what was kept, the number of the next second,
-- how many actions the last one had, the power, the book, and the decided minutes whose keeping has not begun
pub record Progress : Type 0 where
  pub breaks : List Break
  pub unfound : ℕ
  pub next : ℕ
  pub begun : ℕ
  pub supply : UnitPower
  pub book : Book
  pub waiting : List HistoryMinute

-- the span that goes on
abbrev pub going_on : UnitPower → List ToldSecond
going_on (Lit span) = span
going_on Due = []
going_on Lost = []

-- the span that goes on as a list of spans: one, or none where it has no second
abbrev pub as_spans : List ToldSecond → List (List ToldSecond)
as_spans [] = []
as_spans (t ∷ span) = (t ∷ span) ∷ []

-- behind a second with power
abbrev pub going_before : Before
going_before = record { running = true; gone = false; given = true; slots = empty_slots }

-- behind a second without, since a call has failed
abbrev pub lost_before : Before
lost_before = record { running = false; gone = true; given = true; slots = empty_slots }

-- the second of this number has power where the trace gives it, and power begins with it
pub record Comes (before : Before) (next : ℕ) : Type 0 where
  pub running : before.running ≡ false
  pub comes : has_power before (record { number = next; has_power = true; speed = 0; actions = [] }) ≡ true
  pub slots : before.slots ≡ empty_slots

-- the seconds so far went so that the unit's power is this
abbrev pub IsSupplied : UnitPower → Before → ℕ → Type 0
IsSupplied (Lit []) before next = Comes before next
IsSupplied (Lit (t ∷ span)) before next = before ≡ going_before
IsSupplied Due before next = (n : ℕ) → Comes before n
IsSupplied Lost before next = before ≡ lost_before

-- the last of these seconds had so many actions, all of them selections, and power
pub record HadActions (seconds : List TraceSecond) (begun : ℕ) : Type 0 where
  pub before : List TraceSecond
  pub number : ℕ
  pub speed : ℕ
  pub actions : List Action
  pub are : seconds ≡ before ++ record { number = number; has_power = true; speed = speed; actions = actions } ∷ []
  pub selections : AllByRecursion IsSelection actions
  pub count : length actions ≡ begun

-- the last second had power, and these breaks tell no cut in it
pub record HadPower (breaks : List Break) (done : List TraceSecond) (begun : ℕ) : Type 0 where
  pub had : HadActions done begun
  pub power : has_power (went (log_of breaks) had.before).before
      (record { number = had.number; has_power = true; speed = had.speed; actions = had.actions }) ≡ true
  pub slots : (went (log_of breaks) had.before).before.slots ≡ empty_slots

-- where a span has begun, its last second had so many actions and power, and no cut is told in it
abbrev pub IsLastOf : UnitPower → List Break → List TraceSecond → ℕ → Type 0
IsLastOf (Lit []) breaks done begun = Unit {0}
IsLastOf (Lit (t ∷ span)) breaks done begun = HadPower breaks done begun
IsLastOf Due breaks done begun = Unit {0}
IsLastOf Lost breaks done begun = Unit {0}

-- power may come with the next second that the trace gives power
abbrev pub MayPower : UnitPower → (next : ℕ) → Type 0
MayPower (Lit span) next = ⊥
MayPower Due next = Unit {0}
MayPower Lost next = next % 60 ≡ 0

-- the power-on may fail in the next second, also once the unit was read
abbrev pub MayFail : UnitPower → (next : ℕ) → Type 0
MayFail (Lit []) next = Unit {0}
MayFail (Lit (t ∷ span)) next = ⊥
MayFail Due next = Unit {0}
MayFail Lost next = next % 60 ≡ 0

-- no power
abbrev pub IsDark : UnitPower → Type 0
IsDark (Lit span) = ⊥
IsDark Due = Unit {0}
IsDark Lost = Unit {0}

-- the first second that a further cut may be told in
abbrev pub cuts_from : UnitPower → (next : ℕ) → ℕ
cuts_from (Lit []) next = next
cuts_from (Lit (t ∷ span)) next = next - 1
cuts_from Due next = next
cuts_from Lost next = next

-- a span that has ended decided nothing, or these breaks tell of its cut
abbrev pub IsKnown : Rule → List Break → List ToldSecond → Type 0
IsKnown rule found span = (decided_of rule span ≡ [])
    ⊎ ((u : ℕ) × (cut_second (last span) ≡ Some u) × (tells_cut u found ≡ true))

-- the histories with a lost minute of spans all of whose cuts have their limits
abbrev pub closed_lost : Rule → Start → RunLog → List ToldSecond → List (List ToldSecond) → List (List HistoryMinute)
closed_lost rule start log told spans = lost_by rule start (closed_limit log) told [] spans

-- It is known what was kept after each cut but those of spans that decided nothing: the minutes of the spans that have
-- ended, each up to its limit, and then all decided minutes of the span that goes on, are the sure ones and those that
-- wait.
pub record IsShut (rule : Rule) (start : Start) (breaks found : List Break) (told : List ToldSecond)
    (ended : List (List ToldSecond)) (span : List ToldSecond)
    (b : Book) (waiting : List HistoryMinute) : Type 0 where
  pub known : AllByRecursion (IsKnown rule found) ended
  pub none : b.maybe ≡ None
  pub minutes : closed_history rule start (log_of breaks) told ended ++ map plain (decided_of rule span) ≡ b.sure
      ++ waiting
  pub begins : (rest : List HistoryMinute) × (b.sure ≡ closed_history rule start (log_of breaks) told ended ++ rest)
  pub whole : (waiting ≡ []) ⊎ (nat_lt 1 (length span) ≡ true)
  pub lost : AreLost (closed_lost rule start (log_of breaks) told ended) b

-- It is not known yet what was kept after the cut of the last span with more than one second; the spans behind it
-- decided nothing.
pub record IsOpen (rule : Rule) (start : Start) (breaks found : List Break) (told : List ToldSecond)
    (ended : List (List ToldSecond)) (b : Book) : Type 0 where
  pub front : List (List ToldSecond)
  pub span : List ToldSecond
  pub short : List (List ToldSecond)
  pub are : ended ≡ front ++ span ∷ short
  pub known : AllByRecursion (IsKnown rule found) front
  pub long : nat_lt 1 (length span) ≡ true
  pub none : any_long short ≡ false
  pub nothing : AllByRecursion (λ (span : List ToldSecond). decided_of rule span ≡ []) short
  pub second : ℕ
  pub cut : cut_second (last span) ≡ Some second
  pub told_cut : tells_cut second breaks ≡ true
  pub unfound : tells_cut second found ≡ false
  pub begins : (rest : List HistoryMinute) × (b.sure ≡ closed_history rule start (log_of breaks) told front ++ rest)
  pub lost : AreLost (closed_lost rule start (log_of breaks) told front) b

-- without power no minute waits, and what was kept after the last cut is known or not
abbrev pub IsEnded : Rule → Start → List Break → List Break → List ToldSecond → List (List ToldSecond) → Book
    → List HistoryMinute → Type 0
IsEnded rule start breaks found told ended b waiting =
    (waiting ≡ []) × (IsShut rule start breaks found told ended [] b [] ⊎ IsOpen rule start breaks found told ended b)

-- the book goes with the spans so far: with power it is known what was kept after each cut, without it that of the last
-- cut may not be
abbrev pub IsTied : Rule → Start → List Break → List Break → List ToldSecond → List (List ToldSecond) → UnitPower → Book
    → List HistoryMinute → Type 0
IsTied rule start breaks found told ended (Lit span) b waiting = IsShut rule start breaks found told ended span b
    waiting
IsTied rule start breaks found told ended Due b waiting = IsEnded rule start breaks found told ended b waiting
IsTied rule start breaks found told ended Lost b waiting = IsEnded rule start breaks found told ended b waiting

-- The run so far is followed: `from` is the number of its first second, `first` the last-kept minute at its start,
-- `done` its seconds so far, by the trace.
pub record BookFollowsUnitRun (rule : Rule) (start : Start) (from first : ℕ) (done : List TraceSecond)
    (p : Progress) : Type 0 where
  pub early : first < from / 60
  pub order : AreInOrder from done
  pub next : p.next ≡ from + length done
  pub breaks : AllByRecursion (IsCutBefore (cuts_from p.supply p.next)) p.breaks
  pub unfound : p.unfound ≤ length p.breaks
  pub plain : ArePlain (went (log_of p.breaks) done).told
  pub power : IsSupplied p.supply (went (log_of p.breaks) done).before p.next
  pub last : IsLastOf p.supply p.breaks done p.begun
  pub ended : List (List ToldSecond)
  pub spans : spans_of (went (log_of p.breaks) done).told ≡ ended ++ as_spans (going_on p.supply)
  pub tied : IsTied rule start p.breaks (take p.unfound p.breaks) (went (log_of p.breaks) done).told ended p.supply
      p.book p.waiting
  pub follows : Follows (unit_history rule start (log_of p.breaks) (went (log_of p.breaks) done).told)
      (with_lost rule start (log_of p.breaks) (went (log_of p.breaks) done).told) p.book

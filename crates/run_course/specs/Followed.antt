-- What is known of a run with cards between two turns: how its book follows the history (profile). Of a unit alone it
-- says what run_unit_course says.
use Rattle.std.specs.Prelude.{◌≡◌, ◌⊎◌, ℕ, ◌+◌, ◌/◌, ◌<◌, ◌≤◌, true, false, nat_lt, Some, None, List, [], ◌∷◌, ◌++◌}
use Rattle.std.specs.Prelude.{length, take}
use Rattle.std.specs.List.{AllByRecursion}
use Rattle.trace_model.specs.declared.Action.{Action}
use Rattle.trace_model.specs.Trace.{TraceSecond}
use Rattle.minute_model.specs.declared.Rule.{Rule}
use Rattle.minute_model.specs.Activity.{last}
use Rattle.log_model.specs.declared.lines.Break.{Break}
use Rattle.log_model.specs.declared.lines.Break.TheVariants.{Cut, Tear}
use Rattle.log_model.specs.declared.lines.Find.{Find}
use Rattle.log_model.specs.Log.{RunLog}
use Rattle.log_model.specs.Course.{ToldSecond, Before, has_power, went}
use Rattle.log_model.specs.Spans.{spans_of, AreInOrder}
use Rattle.history_model.specs.Minutes.{HistoryMinute}
use Rattle.history_model.specs.Presence.{Start}
use Rattle.history_model.specs.History.{decided_of, span_minutes, cut_second, any_long, unit_history, with_lost}
use Rattle.history_model.specs.Growth.{closed_history}
use Rattle.history_model.specs.Book.{Book, Follows, AreLost}
use Rattle.run_unit_course.specs.Lines.{tells_cut}
use Rattle.run_unit_course.specs.Followed.{UnitPower, Lit, Due, Lost, going_on, as_spans, IsKnown, closed_lost}
use Rattle.run_unit_course.specs.Followed.{cuts_from}

-- how far a run has gone: its log, from which break on it is not known what was kept, the number of the next second,
-- how many actions the last one had, the power, the book, and the decided minutes whose keeping has not begun
pub record Progress : Type 0 where
  pub log : RunLog
  pub unfound : ℕ
  pub next : ℕ
  pub begun : ℕ
  pub supply : UnitPower
  pub book : Book
  pub waiting : List HistoryMinute

-- the second of this number has power where the trace gives it, and power begins with it
pub record Comes (before : Before) (next : ℕ) : Type 0 where
  pub running : before.running ≡ false
  pub comes : has_power before (record { number = next; has_power = true; speed = 0; actions = [] }) ≡ true

-- the last second had power and kept it, and the trace gave it that
pub record PowerGoesOn (before : Before) : Type 0 where
  pub running : before.running ≡ true
  pub gone : before.gone ≡ false
  pub given : before.given ≡ true

-- power is gone since a call failed, though the trace gave the last second power
pub record IsLost (before : Before) : Type 0 where
  pub running : before.running ≡ false
  pub gone : before.gone ≡ true
  pub given : before.given ≡ true

-- the seconds so far went so that the unit's power is this, whatever the slots hold
abbrev pub IsSupplied : UnitPower → Before → ℕ → Type 0
IsSupplied (Lit []) before next = Comes before next
IsSupplied (Lit (t ∷ span)) before next = PowerGoesOn before
IsSupplied Due before next = (n : ℕ) → Comes before n
IsSupplied Lost before next = IsLost before

-- the last of these seconds had so many actions, and the trace gave it power
pub record HadActions (seconds : List TraceSecond) (begun : ℕ) : Type 0 where
  pub before : List TraceSecond
  pub number : ℕ
  pub speed : ℕ
  pub actions : List Action
  pub are : seconds ≡ before ++ record { number = number; has_power = true; speed = speed; actions = actions } ∷ []
  pub count : length actions ≡ begun

-- where a span has begun, its last second had so many actions
abbrev pub IsLastOf : UnitPower → List TraceSecond → ℕ → Type 0
IsLastOf (Lit []) done begun = Unit {0}
IsLastOf (Lit (t ∷ span)) done begun = HadActions done begun
IsLastOf Due done begun = Unit {0}
IsLastOf Lost done begun = Unit {0}

-- a break is told of an earlier second: a cut of one before `cuts`, a tear of one before `next`
abbrev pub IsBreakBefore : (cuts next : ℕ) → Break → Type 0
IsBreakBefore cuts next (Cut second kept failed begun) = second < cuts
IsBreakBefore cuts next (Tear second slot failed begun late) = second < next

-- the lines of a log tell of earlier seconds: its cuts of those before `cuts`, its tears and finds of those before
-- `next`
pub record AreBefore (cuts next : ℕ) (log : RunLog) : Type 0 where
  pub breaks : AllByRecursion (IsBreakBefore cuts next) log.breaks
  pub finds : AllByRecursion (λ (f : Find). f.second < next) log.finds

-- It is known what was kept after each cut but those of spans that decided nothing: the minutes of the spans that have
-- ended, each up to its limit, and then all decided minutes of the span that goes on, with their cards, are the sure
-- ones and those that wait.
pub record IsShut (rule : Rule) (start : Start) (log : RunLog) (found : List Break) (told : List ToldSecond)
    (ended : List (List ToldSecond)) (span : List ToldSecond)
    (b : Book) (waiting : List HistoryMinute) : Type 0 where
  pub known : AllByRecursion (IsKnown rule found) ended
  pub none : b.maybe ≡ None
  pub minutes : closed_history rule start log told ended
      ++ span_minutes rule start told (closed_history rule start log told ended) span
      ≡ b.sure ++ waiting
  pub begins : (rest : List HistoryMinute) × (b.sure ≡ closed_history rule start log told ended ++ rest)
  pub whole : (waiting ≡ []) ⊎ (nat_lt 1 (length span) ≡ true)
  pub lost : AreLost (closed_lost rule start log told ended) b

-- It is not known yet what was kept after the cut of the last span with more than one second; the spans behind it
-- decided nothing.
pub record IsOpen (rule : Rule) (start : Start) (log : RunLog) (found : List Break) (told : List ToldSecond)
    (ended : List (List ToldSecond)) (b : Book) : Type 0 where
  pub front : List (List ToldSecond)
  pub span : List ToldSecond
  pub short : List (List ToldSecond)
  pub are : ended ≡ front ++ span ∷ short
  pub known : AllByRecursion (IsKnown rule found) front
  pub long : nat_lt 1 (length span) ≡ true
  pub none : any_long short ≡ false
  pub nothing : AllByRecursion (λ (span : List ToldSecond). decided_of rule span ≡ []) short
  pub second : ℕ
  pub cut : cut_second (last span) ≡ Some second
  pub told_cut : tells_cut second log.breaks ≡ true
  pub unfound : tells_cut second found ≡ false
  pub begins : (rest : List HistoryMinute) × (b.sure ≡ closed_history rule start log told front ++ rest)
  pub lost : AreLost (closed_lost rule start log told front) b

-- without power no minute waits, and what was kept after the last cut is known or not
abbrev pub IsEnded : Rule → Start → RunLog → List Break → List ToldSecond → List (List ToldSecond) → Book
    → List HistoryMinute → Type 0
IsEnded rule start log found told ended b waiting =
    (waiting ≡ []) × (IsShut rule start log found told ended [] b [] ⊎ IsOpen rule start log found told ended b)

-- the book goes with the spans so far: with power it is known what was kept after each cut, without it that of the last
-- cut may not be
abbrev pub IsTied : Rule → Start → RunLog → List Break → List ToldSecond → List (List ToldSecond) → UnitPower → Book
    → List HistoryMinute → Type 0
IsTied rule start log found told ended (Lit span) b waiting = IsShut rule start log found told ended span b waiting
IsTied rule start log found told ended Due b waiting = IsEnded rule start log found told ended b waiting
IsTied rule start log found told ended Lost b waiting = IsEnded rule start log found told ended b waiting

-- The run so far is followed: `from` is the number of its first second, `first` the last-kept minute at its start,
-- `done` its seconds so far, by the trace.
pub record BookFollowsRun (rule : Rule) (start : Start) (from first : ℕ) (done : List TraceSecond) (p : Progress) : Type
    0 where
  pub early : first < from / 60
  pub order : AreInOrder from done
  pub next : p.next ≡ from + length done
  pub lines : AreBefore (cuts_from p.supply p.next) p.next p.log
  pub unfound : p.unfound ≤ length p.log.breaks
  pub power : IsSupplied p.supply (went p.log done).before p.next
  pub last : IsLastOf p.supply done p.begun
  pub ended : List (List ToldSecond)
  pub spans : spans_of (went p.log done).told ≡ ended ++ as_spans (going_on p.supply)
  pub tied : IsTied rule start p.log (take p.unfound p.log.breaks) (went p.log done).told ended p.supply p.book
      p.waiting
  pub follows : Follows (unit_history rule start p.log (went p.log done).told)
      (with_lost rule start p.log (went p.log done).told) p.book

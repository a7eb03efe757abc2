-- How far a run with cards has travelled, over its steps: the legs of its spans (profile). What a leg is, and what the
-- unit may show, says run_unit_course.
use Rattle.std.specs.Prelude.{◌≡◌, ◌⊎◌, ℕ, suc, ◌+◌, ◌-◌, ◌%◌, ◌<◌, ◌≤◌, true, false, nat_lt, Option, Some, None, List}
use Rattle.std.specs.Prelude.{[], ◌∷◌, ◌++◌, All, Contains, length, take, option_to_list, option_map}
use Rattle.std.specs.List.{AllByRecursion}
use Rattle.trace_model.specs.declared.Action.{Action}
use Rattle.trace_model.specs.Trace.{TraceSecond, driven, dark}
use Rattle.minute_model.specs.declared.Rule.{Rule}
use Rattle.minute_model.specs.declared.Minute.{Minute}
use Rattle.minute_model.specs.Activity.{last}
use Rattle.log_model.specs.declared.lines.Break.{Break}
use Rattle.log_model.specs.declared.lines.Refused.{Refused}
use Rattle.log_model.specs.Log.{RunLog, cut_in}
use Rattle.log_model.specs.Course.{ToldSecond, went}
use Rattle.log_model.specs.Spans.{spans_of}
use Rattle.history_model.specs.Minutes.{HistoryMinute}
use Rattle.history_model.specs.Presence.{Start}
use Rattle.history_model.specs.History.{seated, minutes_after, decided_of, cut_second, any_long, limit_of}
use Rattle.history_model.specs.Growth.{closed_limit}
use Rattle.history_model.specs.Book.{Book, all, found, IsMark}
use Rattle.run_unit_course.specs.Lines.{cut_at, found_from, tells_cut}
use Rattle.run_unit_course.specs.Followed.{UnitPower, Lit, Due, Lost, MayPower, MayFail, IsDark, going_on, as_spans}
use Rattle.run_unit_course.specs.Followed.{IsKnown}
use Rattle.run_unit_course.specs.Legs.{Reckoned, Travel, not_travelled, stranded_at, resumed, all_travelled}
use Rattle.run_unit_course.specs.Legs.{kilometres_of, travelled_by, IsLeg, AreLegs}
use Rattle.run_unit_course.specs.Travelled.{MayShow}
use Rattle.run_course.specs.Moments.{and_break}
use Rattle.run_course.specs.Followed.{Progress, BookFollowsRun}
use Rattle.run_course.specs.Seconds.{GoesOnBy, next_told, kept_all, broken_at}

-- The cuts of these spans are known, or of spans that decided nothing; their legs by the limits of their cuts have the
-- kilometres of what was travelled before. Where the span that goes on is short, they are their legs too by the limits
-- that count so far.
pub record AreClosedLegs (rule : Rule) (first : ℕ) (log : RunLog) (known_breaks : List Break)
    (ended : List (List ToldSecond)) (span : List ToldSecond) (b : Book) (before : List ℕ) : Type 0 where
  pub known : AllByRecursion (IsKnown rule known_breaks) ended
  pub legs : List ℕ
  pub closed : AreLegs rule (closed_limit log) 0 ended legs
  pub so_far : nat_lt 1 (length span) ≡ false → (kept : ℕ) → IsMark first (all b) kept
      → All (λ i. i.minute ≤ kept) b.sure → AreLegs rule (limit_of log) kept ended legs
  pub sums : kilometres_of legs ≡ kilometres_of before

-- the same, and what was travelled since is up to the last minute that the span that goes on has decided
pub record AreShutLegs (rule : Rule) (first : ℕ) (log : RunLog) (known_breaks : List Break)
    (ended : List (List ToldSecond)) (span : List ToldSecond) (b : Book) (g : Travel) : Type 0 where
  pub earlier : AreClosedLegs rule first log known_breaks ended span b g.before
  pub sure : g.sure ≡ travelled_by (decided_of rule span)
  pub none : g.maybe ≡ None

-- It is not known yet what was kept after the cut of the last span with more than one second: whatever the unit may
-- show is its leg.
pub record AreOpenLegs (rule : Rule) (first : ℕ) (log : RunLog) (known_breaks : List Break)
    (ended : List (List ToldSecond)) (b : Book) (g : Travel) : Type 0 where
  pub front : List (List ToldSecond)
  pub span : List ToldSecond
  pub short : List (List ToldSecond)
  pub are : ended ≡ front ++ span ∷ short
  pub known : AllByRecursion (IsKnown rule known_breaks) front
  pub long : nat_lt 1 (length span) ≡ true
  pub none : any_long short ≡ false
  pub nothing : AllByRecursion (λ (span : List ToldSecond). decided_of rule span ≡ []) short
  pub second : ℕ
  pub cut : cut_second (last span) ≡ Some second
  pub told_cut : tells_cut second log.breaks ≡ true
  pub unfound : tells_cut second known_breaks ≡ false
  pub legs : List ℕ
  pub closed : AreLegs rule (closed_limit log) 0 front legs
  pub sums : kilometres_of legs ≡ kilometres_of g.before
  pub leg : (kept leg : ℕ) → MayShow first b g kept leg → IsLeg kept (decided_of rule span) leg

-- without power the last cut is known or not
abbrev pub AreEndedLegs : Rule → ℕ → RunLog → List Break → List (List ToldSecond) → Book → Travel → Type 0
AreEndedLegs rule first log known_breaks ended b g = AreShutLegs rule first log known_breaks ended [] b g
    ⊎ AreOpenLegs rule first log known_breaks ended b g

-- what was travelled goes with the spans so far: with power each cut is known, without it the last one may not be
abbrev pub AreLegsOf : Rule → ℕ → RunLog → List Break → List (List ToldSecond) → UnitPower → Book → Travel → Type 0
AreLegsOf rule first log known_breaks ended (Lit span) b g = AreShutLegs rule first log known_breaks ended span b g
AreLegsOf rule first log known_breaks ended Due b g = AreEndedLegs rule first log known_breaks ended b g
AreLegsOf rule first log known_breaks ended Lost b g = AreEndedLegs rule first log known_breaks ended b g

-- A MINUTE OF WHICH A KEEPING WAS BEGUN is one that a span has decided, with what was travelled in that up to it. The
-- spans before it have cuts that are known, or decided nothing; their legs by the limits of their cuts have the
-- kilometres of what was travelled before.
pub record IsReckoned (rule : Rule) (log : RunLog) (known_breaks : List Break) (spans : List (List ToldSecond))
    (e : Reckoned) : Type 0 where
  pub earlier : List (List ToldSecond)
  pub span : List ToldSecond
  pub later : List (List ToldSecond)
  pub are : spans ≡ earlier ++ span ∷ later
  pub minute : Minute
  pub decided : Contains (decided_of rule span) minute
  pub number : minute.minute ≡ e.minute
  pub leg : minute.travelled ≡ e.leg
  pub known : AllByRecursion (IsKnown rule known_breaks) earlier
  pub legs : List ℕ
  pub closed : AreLegs rule (closed_limit log) 0 earlier legs
  pub sums : kilometres_of legs ≡ kilometres_of e.before

-- Behind these seconds the run has travelled this, by the spans so far; no minute waits.
pub record HasLegs (rule : Rule) (first : ℕ) (done : List TraceSecond) (p : Progress) (g : Travel) : Type 0 where
  pub ended : List (List ToldSecond)
  pub spans : spans_of (went p.log done).told ≡ ended ++ as_spans (going_on p.supply)
  pub legs : AreLegsOf rule first p.log (take p.unfound p.log.breaks) ended p.supply p.book g
  pub begun : (e : Reckoned) → Contains g.begun e
      → IsReckoned rule p.log (take p.unfound p.log.breaks) (spans_of (went p.log done).told) e

-- AT THE START nothing is travelled.
abbrev pub NothingIsTravelled : Type 0
NothingIsTravelled = (rule : Rule) (first : ℕ) (image : List ℕ) (p : Progress) → p.supply ≡ Due
    → HasLegs rule first [] p (not_travelled image)

-- POWER IS BACK, and of what was kept this is shown;
abbrev pub FoundIsTravelled : Type 0
FoundIsTravelled = (rule : Rule) (start : Start) (from first : ℕ) (done : List TraceSecond) (p : Progress)
    → BookFollowsRun rule start from first done p →
    (g : Travel) → HasLegs rule first done p g → MayPower p.supply p.next → (k leg : ℕ) → MayShow first p.book g k leg →
    HasLegs rule first done (record p {
      log = record p.log { breaks = found_from p.unfound k p.log.breaks };
      unfound = length (found_from p.unfound k p.log.breaks);
      supply = Lit [];
      book = found k p.book;
      waiting = [];
    }) (resumed leg g)

-- or the power-on fails.
abbrev pub AFailureIsTravelled : Type 0
AFailureIsTravelled = (rule : Rule) (start : Start) (from first : ℕ) (done : List TraceSecond) (p : Progress)
    → BookFollowsRun rule start from first done p →
    (g : Travel) → HasLegs rule first done p g → MayFail p.supply p.next → p.waiting ≡ []
    → (s : TraceSecond) (later : RunLog) → GoesOnBy p later s →
    HasLegs rule first (done ++ s ∷ [])
    (record {
      log = later;
      unfound = p.unfound;
      next = suc p.next;
      begun = length s.actions;
      supply = Lost;
      book = p.book;
      waiting = [];
    }) g

-- ONE SECOND MORE with power, all whose decided minutes are kept,
abbrev pub ASecondIsTravelled : Type 0
ASecondIsTravelled = (rule : Rule) (start : Start) (from first : ℕ) (done : List TraceSecond) (p : Progress)
    → BookFollowsRun rule start from first done p →
    (g : Travel) → HasLegs rule first done p g → (span : List ToldSecond) → p.supply ≡ Lit span → p.waiting ≡ []
    → (s : TraceSecond) (later : RunLog) → GoesOnBy p later s →
    (ds : List Minute) → decided_of rule (span ++ next_told later done s ∷ []) ≡ decided_of rule span ++ ds →
    HasLegs rule first (done ++ s ∷ []) (record {
      log = later;
      unfound = p.unfound;
      next = suc p.next;
      begun = length s.actions;
      supply = Lit (span ++ next_told later done s ∷ []);
      book = kept_all (minutes_after start ((went later done).told ++ next_told later done s ∷ []) p.book.sure ds)
          p.book;
      waiting = [];
    }) (all_travelled ds g)

-- or a cut's: the first of them are kept, and one more may be.
abbrev pub ABrokenSecondIsTravelled : Type 0
ABrokenSecondIsTravelled = (rule : Rule) (start : Start) (from first : ℕ) (done : List TraceSecond) (p : Progress)
    → BookFollowsRun rule start from first done p →
    (g : Travel) → HasLegs rule first done p g → (span : List ToldSecond) → p.supply ≡ Lit span → p.waiting ≡ []
    → (s : TraceSecond) (later : RunLog) → GoesOnBy p later s →
    (begun : ℕ) → cut_in later s.number ≡ Some begun → (front : List Minute) (d : Option Minute) (rest : List Minute) →
    decided_of rule (span ++ next_told later done s ∷ []) ≡ decided_of rule span
    ++ (front ++ (option_to_list d ++ rest)) →
    let now : List ToldSecond = (went later done).told ++ next_told later done s ∷ [] in
    let kept : List HistoryMinute = minutes_after start now p.book.sure front in
    HasLegs rule first (done ++ s ∷ []) (record {
      log = later;
      unfound = p.unfound;
      next = suc p.next;
      begun = length s.actions;
      supply = Lost;
      book = broken_at (option_map {T = Minute} (seated start now (p.book.sure ++ kept)) d) (kept_all kept p.book);
      waiting = [];
    }) (stranded_at d (all_travelled front g))

-- SECONDS WITHOUT POWER leave what was travelled: those up to a minute's end after a failed call,
abbrev pub ADarkMinuteIsTravelled : Type 0
ADarkMinuteIsTravelled = (rule : Rule) (start : Start) (from first : ℕ) (done : List TraceSecond) (p : Progress)
    → BookFollowsRun rule start from first done p →
    (g : Travel) → HasLegs rule first done p g → p.supply ≡ Lost
    → (n speed : ℕ) (actions : List Action) (refused : List Refused) (begun : ℕ) → 0 < p.next % 60
    → p.next % 60 + n ≤ 60 →
    HasLegs rule first (done ++ driven n p.next speed actions)
    (record p { log = record p.log { refused = refused }; next = p.next + n; begun = begun }) g

-- those of an `off` line where there was no power,
abbrev pub AnOffLineIsTravelled : Type 0
AnOffLineIsTravelled = (rule : Rule) (start : Start) (from first : ℕ) (done : List TraceSecond) (p : Progress)
    → BookFollowsRun rule start from first done p →
    (g : Travel) → HasLegs rule first done p g → IsDark p.supply → (n : ℕ) →
    HasLegs rule first (done ++ dark (suc n) p.next) (record p { next = p.next + suc n; begun = 0; supply = Due }) g

-- and those of one that cuts the power.
abbrev pub AnOffCutIsTravelled : Type 0
AnOffCutIsTravelled = (rule : Rule) (start : Start) (from first : ℕ) (done : List TraceSecond) (p : Progress)
    → BookFollowsRun rule start from first done p →
    (g : Travel) → HasLegs rule first done p g → (t : ToldSecond) (span : List ToldSecond) → p.supply ≡ Lit (t ∷ span)
    → p.waiting ≡ [] → (n : ℕ) →
    HasLegs rule first (done ++ dark (suc n) p.next)
    (record p {
      log = and_break p.log (cut_at (p.next - 1) false p.begun);
      next = p.next
          + suc n;
      begun = 0;
      supply = Due;
    }) g

-- AT ANY MOMENT: whatever last-kept minute and leg the unit may show, the legs that come of it are those of the spans.
abbrev pub ShownLegsAreThose : Type 0
ShownLegsAreThose = (rule : Rule) (start : Start) (from first : ℕ) (done : List TraceSecond) (p : Progress)
    → BookFollowsRun rule start from first done p →
    p.waiting ≡ [] → (g : Travel) → HasLegs rule first done p g → (k leg : ℕ) → MayShow first p.book g k leg →
    (legs : List ℕ) × AreLegs rule (limit_of p.log) k (spans_of (went p.log done).told) legs
    × (kilometres_of legs ≡ kilometres_of (g.before ++ leg ∷ []))

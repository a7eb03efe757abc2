-- The steps of a run with cards, each from what is followed before it to what is followed behind it (profile).
use Rattle.std.specs.Prelude.{◌≡◌, ℕ, suc, ◌+◌, ◌-◌, ◌%◌, ◌/◌, ◌<◌, ◌≤◌, false, true, Option, Some, None, List, [], ◌∷◌}
use Rattle.std.specs.Prelude.{◌++◌, All, length, map, option_to_list}
use Rattle.std.specs.List.{AllByRecursion}
use Rattle.trace_model.specs.declared.Action.{Action}
use Rattle.trace_model.specs.Trace.{TraceSecond, driven, dark}
use Rattle.minute_model.specs.declared.Rule.{Rule}
use Rattle.minute_model.specs.declared.Minute.{Minute}
use Rattle.minute_model.specs.Span.{fed, count_from, ungiven_of}
use Rattle.log_model.specs.declared.lines.Break.{Break}
use Rattle.log_model.specs.declared.lines.Find.{Find}
use Rattle.log_model.specs.declared.lines.Refused.{Refused}
use Rattle.log_model.specs.Log.{RunLog, cut_in}
use Rattle.log_model.specs.Causes.{second_of}
use Rattle.log_model.specs.Course.{ToldSecond, went, second_told}
use Rattle.history_model.specs.Minutes.{HistoryMinute}
use Rattle.history_model.specs.Presence.{Start}
use Rattle.history_model.specs.History.{decided_of, minutes_after}
use Rattle.history_model.specs.Growth.{picking, settled_where}
use Rattle.history_model.specs.Book.{Book, all, kept, broken, found, not_begun, IsMark}
use Rattle.run_unit_course.specs.Followed.{Lit, Due, Lost, MayPower, MayFail, IsDark}
use Rattle.run_unit_course.specs.Turn.{span_at}
use Rattle.run_unit_course.specs.Lines.{cut_at, found_from}
use Rattle.run_course.specs.Moments.{and_break}
use Rattle.run_course.specs.Followed.{Progress, BookFollowsRun}

-- these minutes are kept, one after another
abbrev pub kept_all : List HistoryMinute → Book → Book
kept_all [] b = b
kept_all (i ∷ is) b = kept_all is (kept i b)

-- the keeping of a minute was broken off, or none was begun
abbrev pub broken_at : Option HistoryMinute → Book → Book
broken_at None b = b
broken_at (Some i) b = broken i b

-- a second more that the trace gives power, as a later log tells it: its new breaks and finds are of this second, and
-- what it tells of refused actions is free
pub record GoesOnBy (p : Progress) (later : RunLog) (s : TraceSecond) : Type 0 where
  pub number : s.number ≡ p.next
  pub given : s.has_power ≡ true
  pub breaks : (rest : List Break) × (later.breaks ≡ p.log.breaks ++ rest)
      × AllByRecursion (λ (b : Break). second_of b ≡ p.next) rest
  pub finds : (rest : List Find) × (later.finds ≡ p.log.finds ++ rest)
      × AllByRecursion (λ (f : Find). f.second ≡ p.next) rest

-- this second as it goes by that log
abbrev pub next_told : RunLog → List TraceSecond → TraceSecond → ToldSecond
next_told later done s = second_told later (went later done).before s

-- the minutes that a second decides, with their cards, where these were kept before
abbrev pub DecidedBy : Rule → Start → RunLog → (done : List TraceSecond) → TraceSecond → (span : List ToldSecond) → Book
    → List HistoryMinute → Type 0
DecidedBy rule start later done s span b new =
    (ds : List Minute) × (decided_of rule (span ++ next_told later done s ∷ []) ≡ decided_of rule span ++ ds)
    × (new ≡ minutes_after start ((went later done).told ++ next_told later done s ∷ []) b.sure ds)

-- A RUN BEGINS with nothing kept, and power comes with the first second that the trace gives it.
abbrev pub ARunBegins : Type 0
ARunBegins = (rule : Rule) (start : Start) (from first : ℕ) → first < from / 60 →
    BookFollowsRun rule start from first [] (record {
      log = record { breaks = []; refused = []; finds = [] };
      unfound = 0;
      next = from;
      begun = 0;
      supply = Due;
      book = not_begun;
      waiting = [];
    })

-- POWER IS BACK: the last-kept minute is found, and it counts for all cuts of which nothing was known.
abbrev pub APowerOnFinds : Type 0
APowerOnFinds = (rule : Rule) (start : Start) (from first : ℕ) (done : List TraceSecond) (p : Progress)
    → BookFollowsRun rule start from first done p →
    MayPower p.supply p.next → (k : ℕ) → IsMark first (all p.book) k → All (λ i. i.minute ≤ k) p.book.sure →
    BookFollowsRun rule start from first done (record p {
      log = record p.log { breaks = found_from p.unfound k p.log.breaks };
      unfound = length (found_from p.unfound k p.log.breaks);
      supply = Lit [];
      book = found k p.book;
      waiting = [];
    })

-- A POWER-ON FAILS in the second with which power came, before a minute is begun: also once the unit was read.
abbrev pub APowerOnFails : Type 0
APowerOnFails = (rule : Rule) (start : Start) (from first : ℕ) (done : List TraceSecond) (p : Progress)
    → BookFollowsRun rule start from first done p →
    MayFail p.supply p.next → p.waiting ≡ [] → (s : TraceSecond) (later : RunLog) → GoesOnBy p later s → (begun : ℕ)
    → cut_in later s.number ≡ Some begun →
    BookFollowsRun rule start from first (done ++ s ∷ [])
    (record {
      log = later;
      unfound = p.unfound;
      next = suc p.next;
      begun = length s.actions;
      supply = Lost;
      book = p.book;
      waiting = [];
    })

-- ONE SECOND MORE with power: all that it decides is kept.
abbrev pub ASecondGoesOn : Type 0
ASecondGoesOn = (rule : Rule) (start : Start) (from first : ℕ) (done : List TraceSecond) (p : Progress)
    → BookFollowsRun rule start from first done p →
    (span : List ToldSecond) → p.supply ≡ Lit span → p.waiting ≡ [] → (s : TraceSecond) (later : RunLog)
    → GoesOnBy p later s → cut_in later s.number ≡ None →
    (new : List HistoryMinute) → DecidedBy rule start later done s span p.book new →
    BookFollowsRun rule start from first (done ++ s ∷ []) (record {
      log = later;
      unfound = p.unfound;
      next = suc p.next;
      begun = length s.actions;
      supply = Lit (span ++ next_told later done s ∷ []);
      book = kept_all new p.book;
      waiting = [];
    })

-- OR IT IS A CUT'S: some of what it decides is kept, and one minute more may be, or none was begun.
abbrev pub ASecondBreaksOff : Type 0
ASecondBreaksOff = (rule : Rule) (start : Start) (from first : ℕ) (done : List TraceSecond) (p : Progress)
    → BookFollowsRun rule start from first done p →
    (span : List ToldSecond) → p.supply ≡ Lit span → p.waiting ≡ [] → (s : TraceSecond) (later : RunLog)
    → GoesOnBy p later s → (begun : ℕ) →
    cut_in later s.number ≡ Some begun →
    (new front rest : List HistoryMinute) (i : Option HistoryMinute) → DecidedBy rule start later done s span p.book new
    → new ≡ front ++ (option_to_list i ++ rest) →
    BookFollowsRun rule start from first (done ++ s ∷ []) (record {
      log = later;
      unfound = p.unfound;
      next = suc p.next;
      begun = length s.actions;
      supply = Lost;
      book = broken_at i (kept_all front p.book);
      waiting = [];
    })

-- THE MINUTES that a second decides come one after another from the first that was not decided before, and are over as
-- it begins: so who was present in them is told by the seconds before it.
pub record AreNew (rule : Rule) (start : Start) (next : ℕ) (span told : List ToldSecond) (t : ToldSecond)
    (ds : List Minute) : Type 0 where
  pub due : map (λ (d : Minute). d.minute) ds ≡ count_from (ungiven_of (span_at rule next span)) (length ds)
  pub over : All (λ (d : Minute). d.minute < next / 60) ds
  pub told_before : (past : List HistoryMinute)
      → minutes_after start (told ++ t ∷ []) past ds ≡ minutes_after start told past ds

-- So are the minutes that a second with power decides behind a span, whatever a later log tells of that second.
abbrev pub DecidedMinutesAreNew : Type 0
DecidedMinutesAreNew = (rule : Rule) (start : Start) (from first : ℕ) (done : List TraceSecond) (p : Progress)
    → BookFollowsRun rule start from first done p →
    (span : List ToldSecond) → p.supply ≡ Lit span → p.waiting ≡ [] → (s : TraceSecond) (later : RunLog)
    → GoesOnBy p later s →
    (ds : List Minute) → decided_of rule (span ++ next_told later done s ∷ []) ≡ decided_of rule span ++ ds →
    AreNew rule start p.next span (went later done).told (next_told later done s) ds

-- FOR THE RULES OF MINUTES a second with power is that span with its settling, its selections and its speed.
abbrev pub RulesSeeTheSecond : Type 0
RulesSeeTheSecond = (rule : Rule) (start : Start) (from first : ℕ) (done : List TraceSecond) (p : Progress)
    → BookFollowsRun rule start from first done p →
    (span : List ToldSecond) → p.supply ≡ Lit span → (s : TraceSecond) (later : RunLog) → GoesOnBy p later s →
    let t : ToldSecond = next_told later done s in
    span_at rule (suc p.next) (span ++ t ∷ [])
    ≡ fed (picking t.second.picks (settled_where t.course.settled (span_at rule p.next span))) t.second.speed

-- AFTER A FAILED CALL the seconds up to the minute's end are dark, and their actions are refused.
abbrev pub AMinuteStaysDark : Type 0
AMinuteStaysDark = (rule : Rule) (start : Start) (from first : ℕ) (done : List TraceSecond) (p : Progress)
    → BookFollowsRun rule start from first done p →
    p.supply ≡ Lost → (n speed : ℕ) (actions : List Action) (refused : List Refused) (begun : ℕ) → 0 < p.next % 60
    → p.next % 60 + n ≤ 60 →
    BookFollowsRun rule start from first (done ++ driven n p.next speed actions)
    (record p { log = record p.log { refused = refused }; next = p.next + n; begun = begun })

-- AN `off` LINE of a second at least while there is no power,
abbrev pub AnOffLineIsDark : Type 0
AnOffLineIsDark = (rule : Rule) (start : Start) (from first : ℕ) (done : List TraceSecond) (p : Progress)
    → BookFollowsRun rule start from first done p →
    IsDark p.supply → (n : ℕ) →
    BookFollowsRun rule start from first (done ++ dark (suc n) p.next)
    (record p { next = p.next + suc n; begun = 0; supply = Due })

-- and while there is: its last second turns out to be a cut's, behind all of its actions.
abbrev pub AnOffLineCuts : Type 0
AnOffLineCuts = (rule : Rule) (start : Start) (from first : ℕ) (done : List TraceSecond) (p : Progress)
    → BookFollowsRun rule start from first done p →
    (t : ToldSecond) (span : List ToldSecond) → p.supply ≡ Lit (t ∷ span) → p.waiting ≡ [] → (n : ℕ) →
    BookFollowsRun rule start from first (done ++ dark (suc n) p.next)
    (record p {
      log = and_break p.log (cut_at (p.next - 1) false p.begun);
      next = p.next
          + suc n;
      begun = 0;
      supply = Due;
    })

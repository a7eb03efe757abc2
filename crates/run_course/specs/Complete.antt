-- What is acknowledged of a run with cards, over its steps (profile).
use Rattle.std.specs.Prelude.{◌≡◌, ◌⊎◌, ℕ, ◌+◌, ◌-◌, ◌*◌, ◌≤◌, true, false, List, [], ◌∷◌, ◌++◌, All, Contains}
use Rattle.activity_codec.specs.declared.entries.Entry.{Entry}
use Rattle.trace_model.specs.declared.Card.{Card}
use Rattle.trace_model.specs.Trace.{TraceSecond}
use Rattle.run_model.specs.declared.Device.{Device}
use Rattle.run_model.specs.declared.Device.TheVariants.{Unit as Recorder}
use Rattle.minute_model.specs.declared.Rule.{Rule}
use Rattle.log_model.specs.declared.lines.Mark.{Mark}
use Rattle.log_model.specs.declared.lines.Refused.{Refused}
use Rattle.log_model.specs.Log.{RunLog}
use Rattle.log_model.specs.Causes.{device_of}
use Rattle.log_model.specs.Course.{ToldSecond, went, second_told}
use Rattle.log_model.specs.Spans.{AreInOrder}
use Rattle.history_model.specs.Minutes.{HistoryMinute, on_card}
use Rattle.history_model.specs.Presence.{Start}
use Rattle.history_model.specs.Completeness.{IsMarked, FailedCutIn, TornBetween, IsComplete}
use Rattle.history_model.specs.Book.{all, IsMark}
use Rattle.run_unit_course.specs.Lines.{cut_at, found_from}
use Rattle.run_unit_course.specs.Followed.{Lit, MayPower, MayFail}
use Rattle.run_course.specs.Moments.{and_break}
use Rattle.run_course.specs.Followed.{Progress, BookFollowsRun}
use Rattle.run_course.specs.Seconds.{GoesOnBy, next_told, DecidedBy}

-- what was acknowledged is so still
abbrev pub AllMarked : (marks later : List Mark) → Type 0
AllMarked marks later = (device : Device) (m : ℕ) → IsMarked marks device m → IsMarked later device m

-- The minutes that a second decides: each is acknowledged by the unit, and what it says on a card by that card, but
-- where the second is a cut's, or the card was torn out or pulled out since the minute's end.
pub record AreAcknowledged (marks : List Mark) (now : List ToldSecond) (number : ℕ) (t : ToldSecond)
    (new : List HistoryMinute) : Type 0 where
  pub unit : (i : HistoryMinute) → Contains new i → IsMarked marks Recorder i.minute ⊎ (t.cut ≡ true)
  pub card : (i : HistoryMinute) (card : Card) (e : Entry) → Contains new i → Contains (on_card card i) e →
      IsMarked marks (device_of card) i.minute ⊎ ((t.cut ≡ true) ⊎ TornBetween now card (60 * (i.minute + 1)) number)

-- nothing is decided before the first second
abbrev pub NothingIsDecidedYet : Type 0
NothingIsDecidedYet = (rule : Rule) (start : Start) (log : RunLog) (marks : List Mark)
    → IsComplete rule start log (went log []).told marks

-- ONE SECOND MORE with power: while it is the last, only a failed call makes it a cut's
abbrev pub ASecondIsAcknowledged : Type 0
ASecondIsAcknowledged = (rule : Rule) (start : Start) (from first : ℕ) (done : List TraceSecond) (p : Progress)
    → BookFollowsRun rule start from first done p →
    (span : List ToldSecond) → p.supply ≡ Lit span → p.waiting ≡ [] → (s : TraceSecond) (later : RunLog)
    → GoesOnBy p later s →
    (new : List HistoryMinute) → DecidedBy rule start later done s span p.book new →
    (marks more : List Mark) → AllMarked marks more → IsComplete rule start p.log (went p.log done).told marks →
    AreAcknowledged more (went later (done ++ s ∷ [])).told p.next (next_told later done s) new →
    ((next_told later done s).cut ≡ true → FailedCutIn later p.next) →
    IsComplete rule start later (went later (done ++ s ∷ [])).told more

-- A SECOND WITHOUT POWER, or with which power begins, by the same log
abbrev pub PowerAloneDecidesNothing : Type 0
PowerAloneDecidesNothing = (rule : Rule) (start : Start) (from : ℕ) (log : RunLog) (done : List TraceSecond)
    (s : TraceSecond) (marks : List Mark) →
    AreInOrder from (done ++ s ∷ []) →
    (let t : ToldSecond = second_told log (went log done).before s in (t.lit ≡ false) ⊎ (t.starts ≡ true)) →
    IsComplete rule start log (went log done).told marks
    → IsComplete rule start log (went log (done ++ s ∷ [])).told marks

-- A POWER-ON finds what was kept,
abbrev pub FoundStaysComplete : Type 0
FoundStaysComplete = (rule : Rule) (start : Start) (from first : ℕ) (done : List TraceSecond) (p : Progress)
    → BookFollowsRun rule start from first done p →
    MayPower p.supply p.next → (k : ℕ) → IsMark first (all p.book) k → All (λ i. i.minute ≤ k) p.book.sure
    → (marks : List Mark) →
    IsComplete rule start p.log (went p.log done).told marks →
    (let later : RunLog = record p.log { breaks = found_from p.unfound k p.log.breaks } in IsComplete rule start later
    (went later done).told marks)

-- or fails.
abbrev pub AFailureStaysComplete : Type 0
AFailureStaysComplete = (rule : Rule) (start : Start) (from first : ℕ) (done : List TraceSecond) (p : Progress)
    → BookFollowsRun rule start from first done p →
    MayFail p.supply p.next → p.waiting ≡ [] → (s : TraceSecond) (later : RunLog) → GoesOnBy p later s
    → (marks : List Mark) →
    IsComplete rule start p.log (went p.log done).told marks
    → IsComplete rule start later (went later (done ++ s ∷ [])).told marks

-- REFUSALS are nothing to it.
abbrev pub RefusalsStayComplete : Type 0
RefusalsStayComplete = (rule : Rule) (start : Start) (log : RunLog) (refused : List Refused) (done : List TraceSecond)
    (marks : List Mark) →
    IsComplete rule start log (went log done).told marks →
    (let later : RunLog = record log { refused = refused } in IsComplete rule start later (went later done).told marks)

-- THE LAST SECOND turns out to be a cut's, of an `off` line: it excuses nothing.
abbrev pub ACutStaysComplete : Type 0
ACutStaysComplete = (rule : Rule) (start : Start) (from first : ℕ) (done : List TraceSecond) (p : Progress)
    → BookFollowsRun rule start from first done p →
    (t : ToldSecond) (span : List ToldSecond) → p.supply ≡ Lit (t ∷ span) → p.waiting ≡ [] → (marks : List Mark) →
    IsComplete rule start p.log (went p.log done).told marks →
    (let later : RunLog = and_break p.log (cut_at (p.next - 1) false p.begun) in IsComplete rule start later
    (went later done).told marks)

-- MORE MARKS take nothing away.
abbrev pub MoreMarksStay : Type 0
MoreMarksStay = (rule : Rule) (start : Start) (log : RunLog) (told : List ToldSecond) (marks more : List Mark)
    → AllMarked marks more →
    IsComplete rule start log told marks → IsComplete rule start log told more

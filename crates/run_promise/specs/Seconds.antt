-- What is recorded, over each kind of second of a run (profile).
use Rattle.std.specs.Prelude.{◌≡◌, ◌⊎◌, ℕ, suc, ◌+◌, ◌-◌, ◌%◌, ◌/◌, ◌<◌, ◌≤◌, true, false, Option, List, [], ◌∷◌, ◌++◌}
use Rattle.std.specs.Prelude.{Contains, length, map, option_map, option_to_list}
use Rattle.run_course.specs.trace_model.declared.Card.{Card}
use Rattle.run_course.specs.trace_model.declared.Action.{Action}
use Rattle.run_course.specs.trace_model.Trace.{TraceSecond, driven, dark}
use Rattle.run_course.specs.run_model.declared.Device.{Device}
use Rattle.run_course.specs.run_model.declared.Device.TheVariants.{Unit as Recorder}
use Rattle.run_course.specs.minute_model.declared.Minute.{Minute}
use Rattle.run_course.specs.log_model.declared.lines.Mark.{Mark}
use Rattle.run_course.specs.log_model.declared.lines.Refused.{Refused}
use Rattle.run_course.specs.log_model.Log.{RunLog, Phase, Keeping}
use Rattle.run_course.specs.log_model.Causes.{refusals_at, refusal_told, RoseBy}
use Rattle.run_course.specs.log_model.Course.{ToldSecond, Visit, went, without_power}
use Rattle.run_course.specs.history_model.Minutes.{HistoryMinute}
use Rattle.run_course.specs.history_model.History.{seated, minutes_after, decided_of}
use Rattle.run_course.specs.history_model.Book.{Book, found, not_begun}
use Rattle.unit_rule.specs.run_unit_course.Lines.{cut_at, found_from}
use Rattle.unit_rule.specs.run_unit_course.Followed.{Lit, Due, Lost, MayPower, MayFail, IsDark}
use Rattle.unit_rule.specs.run_unit_course.Legs.{Travel, not_travelled, stranded_at, resumed, all_travelled}
use Rattle.unit_rule.specs.run_unit_course.Travelled.{MayShow}
use Rattle.unit_rule.specs.card_image.Own.{IsOwnValid}
use Rattle.unit_rule.specs.safety_model.Recording.{card_image}
use Rattle.run_course.specs.Moments.{and_break}
use Rattle.run_course.specs.Followed.{Progress}
use Rattle.run_course.specs.Seconds.{next_told, kept_all, broken_at}
use Rattle.run_course.specs.Complete.{AllMarked, AreAcknowledged}
use Rattle.run_course.specs.Quiet.{quiet_on}
use Rattle.run_promise.specs.Going.{acceptances_in, IsTakenAt}
use Rattle.run_course.specs.Moment.{Moment}
use Rattle.run_course.specs.Telling.{IsMore, begun_by, IsLeft}
use Rattle.run_promise.specs.Origin.{Origin, rule_of, start_at, first_of, HistoryIsRecorded}

-- a log that tells nothing
abbrev pub empty_log : RunLog
empty_log = record { breaks = []; refused = []; finds = [] }

-- how far a run has gone before its first second
abbrev pub at_start : Origin → Progress
at_start o = record {
  log = empty_log;
  unfound = 0;
  next = o.from;
  begun = 0;
  supply = Due;
  book = not_begun;
  waiting = [];
}

-- AT THE START nothing is recorded.
abbrev pub NothingIsRecorded : Type 0
NothingIsRecorded = (o : Origin) → first_of o < o.from / 60
    → HistoryIsRecorded o [] (at_start o) (not_travelled o.recording.unit) [] o.breakdowns (λ c. [])

-- how far a run has gone once this last-kept minute is found
abbrev pub found_again : (k : ℕ) → Progress → Progress
found_again k p = record p {
  log = record p.log { breaks = found_from p.unfound k p.log.breaks };
  unfound = length (found_from p.unfound k p.log.breaks);
  supply = Lit [];
  book = found k p.book;
  waiting = [];
}

-- POWER IS BACK: the last-kept minute is found, and what was travelled up to it.
abbrev pub WhatWasKeptIsFound : Type 0
WhatWasKeptIsFound = (o : Origin) (done : List TraceSecond) (p : Progress) (g : Travel) (marks : List Mark)
    (now : Device → ℕ) (brought : Card → List ℕ) → HistoryIsRecorded o done p g marks now brought →
    MayPower p.supply p.next → (k leg : ℕ) → MayShow (first_of o) p.book g k leg
    → HistoryIsRecorded o done (found_again k p) (resumed leg g) marks now brought

-- BREAKDOWNS of the unit, of which nothing is told, and further marks, take nothing away.
abbrev pub MoreIsRecorded : Type 0
MoreIsRecorded = (o : Origin) (done : List TraceSecond) (p : Progress) (g : Travel) (marks more : List Mark)
    (now later : Device → ℕ) (brought : Card → List ℕ) → HistoryIsRecorded o done p g marks now brought →
    AllMarked marks more → IsMore now later → HistoryIsRecorded o done p g more later brought

-- each acceptance of a card in a second is taken at the unit's last-kept minute, which is told with those of before
abbrev pub AreTaken : Origin → (old later : Book) → ToldSecond → (new : List HistoryMinute)
    → (brought more : Card → List ℕ) → Type 0
AreTaken o old later t new brought more = (c : Card) → IsOwnValid (card_image o.recording c)
    → ((k : ℕ) → Contains (brought c) k → Contains (more c) k)
    × ((acceptances_in c t ≡ []) ⊎ ((k : ℕ) × Contains (more c) k × IsTakenAt (first_of o) old later new k))

-- how far a run has gone behind a second with power, of whose minutes these were kept
abbrev pub went_on : (log : RunLog) → List TraceSecond → TraceSecond → (span : List ToldSecond)
    → (new : List HistoryMinute) → Progress → Progress
went_on log done s span new p = record {
  log = log;
  unfound = p.unfound;
  next = suc p.next;
  begun = length s.actions;
  supply = Lit (span ++ next_told log done s ∷ []);
  book = kept_all new p.book;
  waiting = [];
}

-- the minutes that a second decides, with their cards
abbrev pub seated_now : Origin → RunLog → List TraceSecond → TraceSecond → Progress → List Minute → List HistoryMinute
seated_now o log done s p ds = minutes_after (start_at o) ((went p.log done).told ++ next_told log done s ∷ [])
    p.book.sure ds

-- ONE SECOND MORE with power: all that it decides is kept.
abbrev pub ASecondIsRecorded : Type 0
ASecondIsRecorded = (o : Origin) (done : List TraceSecond) (p : Progress) (g : Travel) (marks more : List Mark)
    (mid now : Device → ℕ) (brought taken : Card → List ℕ) → HistoryIsRecorded o done p g marks mid brought →
    (span : List ToldSecond) → p.supply ≡ Lit span → (s : TraceSecond) (log : RunLog)
    → Moment p (went p.log done).before s Keeping log [] mid now →
    (ds : List Minute) → decided_of (rule_of o) (span ++ next_told log done s ∷ []) ≡ decided_of (rule_of o) span ++ ds
    →
    let new : List HistoryMinute = seated_now o log done s p ds in
    AllMarked marks more → AreAcknowledged more ((went p.log done).told ++ next_told log done s ∷ []) p.next
    (next_told log done s) new →
    AreTaken o p.book (kept_all new p.book) (next_told log done s) new brought taken →
    HistoryIsRecorded o (done ++ s ∷ []) (went_on log done s span new p) (all_travelled ds g) more now taken

-- how far a run has gone behind the second of a cut, of whose minutes these were kept, and one more may be
abbrev pub broke_off : (log : RunLog) → TraceSecond → (front : List HistoryMinute) → Option HistoryMinute → Progress
    → Progress
broke_off log s front i p = record {
  log = log;
  unfound = p.unfound;
  next = suc p.next;
  begun = length s.actions;
  supply = Lost;
  book = broken_at i (kept_all front p.book);
  waiting = [];
}

-- the minute whose keeping was broken off, with its cards
abbrev pub seated_next : Origin → RunLog → List TraceSecond → TraceSecond → Progress → List Minute → Option Minute
    → Option HistoryMinute
seated_next o log done s p front d =
    option_map {T = Minute} (seated (start_at o) ((went p.log done).told ++ next_told log done s ∷ [])
    (p.book.sure ++ seated_now o log done s p front)) d

-- OR IT IS A CUT'S: the first of its minutes are kept, and one more may be, or none was begun.
abbrev pub ASecondIsBroken : Type 0
ASecondIsBroken = (o : Origin) (done : List TraceSecond) (p : Progress) (g : Travel) (marks more : List Mark)
    (mid now later : Device → ℕ) (brought taken : Card → List ℕ) → HistoryIsRecorded o done p g marks mid brought →
    (span : List ToldSecond) → p.supply ≡ Lit span → (s : TraceSecond) (at : Phase) (log : RunLog) (waits : List Visit)
    → Moment p (went p.log done).before s at log waits mid now →
    IsMore now later → RoseBy 1 (mid Recorder) (later Recorder) → (rest : List Action) → IsLeft s at rest →
    let cut_log : RunLog = and_break log (cut_at s.number true (begun_by s at)) in
    let t : ToldSecond = next_told cut_log done s in
    (front : List Minute) (d : Option Minute) (ds : List Minute)
    → decided_of (rule_of o) (span ++ t ∷ []) ≡ decided_of (rule_of o) span ++ (front ++ (option_to_list d ++ ds)) →
    let i : Option HistoryMinute = seated_next o cut_log done s p front d in
    let kept : List HistoryMinute = seated_now o cut_log done s p front in
    AllMarked marks more → AreTaken o p.book (broken_at i (kept_all kept p.book)) t
    (seated_now o cut_log done s p (front ++ (option_to_list d ++ ds))) brought taken →
    HistoryIsRecorded o (done ++ s ∷ []) (broke_off cut_log s kept i p) (stranded_at d (all_travelled front g)) more
    later taken

-- how far a run has gone behind a second in which the power-on failed
abbrev pub failed_on : TraceSecond → Progress → Progress
failed_on s p = record {
  log = and_break p.log (cut_at s.number true 0);
  unfound = p.unfound;
  next = suc p.next;
  begun = length s.actions;
  supply = Lost;
  book = p.book;
  waiting = [];
}

-- A POWER-ON FAILS at once, in the second with which power came.
abbrev pub AFailedPowerOnIsRecorded : Type 0
AFailedPowerOnIsRecorded = (o : Origin) (done : List TraceSecond) (p : Progress) (g : Travel) (marks : List Mark)
    (mid later : Device → ℕ) (brought : Card → List ℕ) → HistoryIsRecorded o done p g marks mid brought →
    MayFail p.supply p.next → (s : TraceSecond) → s.number ≡ p.next → s.has_power ≡ true → IsMore mid later
    → RoseBy 1 (mid Recorder) (later Recorder) →
    HistoryIsRecorded o (done ++ s ∷ []) (failed_on s p) g marks later brought

-- SECONDS of a minute without actions, of which nothing is told
abbrev pub QuietSecondsAreRecorded : Type 0
QuietSecondsAreRecorded = (o : Origin) (done : List TraceSecond) (p : Progress) (g : Travel) (marks : List Mark)
    (now : Device → ℕ) (brought : Card → List ℕ) → HistoryIsRecorded o done p g marks now brought →
    (t : ToldSecond) (span : List ToldSecond) → p.supply ≡ Lit (t ∷ span) → (n speed : ℕ) → p.next % 60 + n < 60 →
    HistoryIsRecorded o (done ++ driven n p.next speed [])
    (quiet_on n speed (t ∷ span) (went p.log done).before.slots p) g marks now brought

-- how far a run has gone behind n seconds without power, of whose actions these were refused
abbrev pub passed_dark : (n begun : ℕ) → (refused : List Refused) → Progress → Progress
passed_dark n begun refused p = record p {
  log = record p.log { refused = p.log.refused ++ refused };
  next = p.next + n;
  begun = begun;
}

-- SECONDS up to a minute's end after a failed call: their actions are refused for lack of power.
abbrev pub DarkSecondsAreRecorded : Type 0
DarkSecondsAreRecorded = (o : Origin) (done : List TraceSecond) (p : Progress) (g : Travel) (marks : List Mark)
    (now : Device → ℕ) (brought : Card → List ℕ) → HistoryIsRecorded o done p g marks now brought →
    p.supply ≡ Lost → (n speed : ℕ) (actions : List Action) (refused : List Refused) (begun : ℕ) → 0 < p.next % 60
    → p.next % 60 + suc n ≤ 60 → map refusal_told refused ≡ refusals_at p.next (without_power 0 actions) →
    HistoryIsRecorded o (done ++ driven (suc n) p.next speed actions) (passed_dark (suc n) begun refused p) g marks now
    brought

-- how far a run has gone behind an `off` line where there was no power
abbrev pub gone_off : (n : ℕ) → Progress → Progress
gone_off n p = record p { next = p.next + suc n; begun = 0; supply = Due }

-- AN `off` LINE while there is no power,
abbrev pub AnOffLineIsRecorded : Type 0
AnOffLineIsRecorded = (o : Origin) (done : List TraceSecond) (p : Progress) (g : Travel) (marks : List Mark)
    (now : Device → ℕ) (brought : Card → List ℕ) → HistoryIsRecorded o done p g marks now brought →
    IsDark p.supply → (n : ℕ) → HistoryIsRecorded o (done ++ dark (suc n) p.next) (gone_off n p) g marks now brought

-- how far a run has gone behind an `off` line that cuts the power
abbrev pub cut_off : (n : ℕ) → Progress → Progress
cut_off n p = record p {
  log = and_break p.log (cut_at (p.next - 1) false p.begun);
  next = p.next
      + suc n;
  begun = 0;
  supply = Due;
}

-- and while there is: the power is cut in the second before it.
abbrev pub AnOffCutIsRecorded : Type 0
AnOffCutIsRecorded = (o : Origin) (done : List TraceSecond) (p : Progress) (g : Travel) (marks : List Mark)
    (now : Device → ℕ) (brought : Card → List ℕ) → HistoryIsRecorded o done p g marks now brought →
    (t : ToldSecond) (span : List ToldSecond) → p.supply ≡ Lit (t ∷ span) → (n : ℕ)
    → HistoryIsRecorded o (done ++ dark (suc n) p.next) (cut_off n p) g marks now brought

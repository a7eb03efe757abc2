-- What is told at a moment of a second, and how the second ends (profile).
use Rattle.std.specs.Prelude.{◌≡◌, ◌⊎◌, ℕ, ◌+◌, ◌≤◌, Bool, true, false, Some, List, [], ◌∷◌, ◌++◌, Contains, length}
use Rattle.std.specs.List.{AllByRecursion}
use Rattle.activity_codec.specs.declared.values.Slot.{Slot}
use Rattle.activity_codec.specs.declared.values.Slot.TheVariants.{Driver, CoDriver}
use Rattle.trace_model.specs.declared.Card.{Card}
use Rattle.trace_model.specs.declared.Action.{Action}
use Rattle.trace_model.specs.Trace.{TraceSecond}
use Rattle.run_model.specs.declared.Device.{Device}
use Rattle.run_model.specs.declared.Device.TheVariants.{Unit as Recorder}
use Rattle.minute_model.specs.declared.Rule.{Rule}
use Rattle.log_model.specs.declared.lines.Break.{Break}
use Rattle.log_model.specs.declared.lines.Find.{Find}
use Rattle.log_model.specs.Log.{RunLog, Phase, In, Keeping, is_torn_in, found_in}
use Rattle.log_model.specs.Slots.{Sitting, in_slot}
use Rattle.log_model.specs.Causes.{device_of, RoseBy}
use Rattle.log_model.specs.Course.{ToldSecond, Course, Visit, Before, visits, fresh, cut_told, went}
use Rattle.history_model.specs.Presence.{Start}
use Rattle.run_unit_course.specs.Lines.{cut_at}
use Rattle.run_unit_course.specs.Followed.{Lit, MayFail}
use Rattle.run_unit_course.specs.Turn.{begins_with}
use Rattle.run_course.specs.Moments.{and_break, and_find}
use Rattle.run_course.specs.Followed.{Progress, BookFollowsRun}
use Rattle.run_course.specs.Seconds.{next_told}
use Rattle.run_course.specs.Within.{IsFoundOf, not_begun}
use Rattle.run_course.specs.Caused.{AreNewCauses}
use Rattle.run_course.specs.Reached.{course_at, moved_at, IsTearAt, IsFindAt}
use Rattle.run_course.specs.Lines.{times_of, IsTornAt}
use Rattle.run_course.specs.Moment.{Moment}

-- the unit broke down as often as before, or more often, and no card did
pub record IsMore (now later : Device → ℕ) : Type 0 where
  pub unit : now Recorder ≤ later Recorder
  pub cards : (card : Card) → later (device_of card) ≡ now (device_of card)

-- BREAKDOWNS of the unit, of which nothing is told, take nothing away.
abbrev pub BreakdownsOnly : Type 0
BreakdownsOnly = (p : Progress) (before : Before) (s : TraceSecond) (at : Phase) (log : RunLog) (waits : List Visit)
    (mid now later : Device → ℕ) →
    Moment p before s at log waits mid now → IsMore now later → Moment p before s at log waits mid later

-- a card broke down once more, and the other did not
pub record BrokeDown (card : Card) (now later : Device → ℕ) : Type 0 where
  pub unit : now Recorder ≤ later Recorder
  pub broke : RoseBy 1 (now (device_of card)) (later (device_of card))
  pub others : (other : Card) → (other ≡ card → ⊥) → later (device_of other) ≡ now (device_of other)

-- these visits are one, of this slot at this moment
abbrev pub IsOneOut : Phase → Slot → Card → List Visit → Type 0
IsOneOut at slot card out = out ≡ record { phase = at; slot = slot; card = card } ∷ []

-- A CARD IS TORN OUT of a slot, since a call on it failed: it sat there, or leaves it at this moment, before any action
-- only where power comes with the second.
abbrev pub ACardIsTorn : Type 0
ACardIsTorn = (p : Progress) (before : Before) (s : TraceSecond) (at : Phase) (log : RunLog) (waits : List Visit)
    (mid now later : Device → ℕ) →
    Moment p before s at log waits mid now → (slot : Slot) (b : Break) → IsTearAt s at slot true b
    → (at ≡ In 0 → before.running ≡ false) → is_torn_in log s.number at slot ≡ false →
    (card : Card) → IsOneOut at slot card ((moved_at log before s at).leaving slot ++ visits at slot
    (course_at log before s at).slots) → BrokeDown card now later →
    Moment p before s at (and_break log b) waits mid later
    × IsTornAt s.number slot (record { phase = at; slot = slot; card = card } ∷ []) (course_at log before s at)
    (course_at (and_break log b) before s at)

-- the cards that enter wait, but that of a slot
pub record WaitBut (at : Phase) (slot : Slot) (card : Card) (waits fewer : List Visit) : Type 0 where
  pub others : (e : Visit) → Contains waits e → Contains fewer e ⊎ (e.slot ≡ slot)
  pub fewer_by : (other : Card) → times_of other fewer
      + times_of other (record { phase = at; slot = slot; card = card } ∷ []) ≤ times_of other waits

-- A CARD THAT WAITS is torn out before it was judged: it waits no more;
abbrev pub ATornCardWaitsNoMore : Type 0
ATornCardWaitsNoMore = (p : Progress) (before : Before) (s : TraceSecond) (at : Phase) (log : RunLog)
    (waits fewer : List Visit) (mid now : Device → ℕ) →
    Moment p before s at log waits mid now → (slot : Slot) (card : Card) → is_torn_in log s.number at slot ≡ true
    → WaitBut at slot card waits fewer →
    AllByRecursion (λ (e : Visit). e.phase ≡ at) fewer → Moment p before s at log fewer mid now

-- or it is judged, the driver's before the co-driver's.
abbrev pub ACardIsJudged : Type 0
ACardIsJudged = (p : Progress) (before : Before) (s : TraceSecond) (at : Phase) (log : RunLog)
    (waits fewer : List Visit) (mid now : Device → ℕ) →
    Moment p before s at log waits mid now → (f : Find) → IsFindAt s at f → (x : Sitting)
    → in_slot (course_at log before s at).slots f.slot ≡ Some x →
    found_in log s.number at f.slot ≡ [] → (moved_at log before s at).enters f.slot ≡ true →
    (f.slot ≡ Driver → ((moved_at log before s at).enters CoDriver ≡ false) ⊎ (found_in log s.number at CoDriver ≡ []))
    →
    WaitBut at f.slot x.card waits fewer → AllByRecursion (λ (e : Visit). e.phase ≡ at) fewer →
    Moment p before s at (and_find log f) fewer mid now
    × IsFoundOf s.number at f.slot f.verdict (course_at log before s at) (course_at (and_find log f) before s at)

-- THE KEEPING comes behind all actions.
abbrev pub TheKeepingComes : Type 0
TheKeepingComes = (p : Progress) (before : Before) (s : TraceSecond) (log : RunLog) (mid now : Device → ℕ)
    → Moment p before s (In (length s.actions)) log [] mid now →
    Moment p before s Keeping log [] mid now
    × (course_at log before s Keeping ≡ course_at log before s (In (length s.actions)))

-- a second with power, with this course
abbrev pub told_with : (starts cut : Bool) → TraceSecond → Course → ToldSecond
told_with starts cut s c = record {
  second = record { number = s.number; speed = s.speed; picks = c.picks };
  given = true;
  lit = true;
  starts = starts;
  cut = cut;
  course = c;
}

-- THE SECOND ENDS: this is how it went, and its new lines tell exactly that.
abbrev pub TheSecondEnds : Type 0
TheSecondEnds = (rule : Rule) (start : Start) (from first : ℕ) (done : List TraceSecond) (p : Progress)
    → BookFollowsRun rule start from first done p →
    (span : List ToldSecond) → p.supply ≡ Lit span → (s : TraceSecond) (log : RunLog) (mid now : Device → ℕ)
    → (m : Moment p (went p.log done).before s Keeping log [] mid now) →
    (next_told log done s ≡ told_with (begins_with span) false s (course_at log (went p.log done).before s Keeping))
    × AreNewCauses mid now m.breaks m.finds m.refused log s (next_told log done s)

-- how many actions had begun at a moment
abbrev pub begun_by : TraceSecond → Phase → ℕ
begun_by s (In n) = n
begun_by s Keeping = length s.actions

-- the actions behind it
abbrev pub IsLeft : TraceSecond → Phase → List Action → Type 0
IsLeft s (In n) rest = (front : List Action) × (s.actions ≡ front ++ rest) × (length front ≡ n)
IsLeft s Keeping rest = rest ≡ []

-- OR A CUT ENDS IT at a moment: a call on the unit has failed.
abbrev pub ACutEnds : Type 0
ACutEnds = (rule : Rule) (start : Start) (from first : ℕ) (done : List TraceSecond) (p : Progress)
    → BookFollowsRun rule start from first done p →
    (span : List ToldSecond) → p.supply ≡ Lit span
    → (s : TraceSecond) (at : Phase) (log : RunLog) (waits : List Visit) (mid now later : Device → ℕ) →
    (m : Moment p (went p.log done).before s at log waits mid now) → IsMore now later
    → RoseBy 1 (mid Recorder) (later Recorder) → (rest : List Action) → IsLeft s at rest →
    let cut : Break = cut_at s.number true (begun_by s at) in
    let told_log : RunLog = and_break log cut in
    (next_told told_log done s ≡ told_with (begins_with span) true s
    (cut_told true (not_begun rest (course_at log (went p.log done).before s at))))
    × AreNewCauses mid later (m.breaks ++ cut ∷ []) m.finds m.refused told_log s (next_told told_log done s)

-- A POWER-ON FAILS at once: the second with which power came is a cut's.
abbrev pub APowerOnIsCut : Type 0
APowerOnIsCut = (rule : Rule) (start : Start) (from first : ℕ) (done : List TraceSecond) (p : Progress)
    → BookFollowsRun rule start from first done p →
    MayFail p.supply p.next → (s : TraceSecond) → s.number ≡ p.next → s.has_power ≡ true → (mid later : Device → ℕ)
    → IsMore mid later → RoseBy 1 (mid Recorder) (later Recorder) →
    let cut : Break = cut_at s.number true 0 in
    let told_log : RunLog = and_break p.log cut in
    (next_told told_log done s ≡ told_with true true s
    (cut_told true (not_begun s.actions (fresh true (went p.log done).before.slots))))
    × AreNewCauses mid later (cut ∷ []) [] [] told_log s (next_told told_log done s)

-- What a line that is told now makes of the moment that a second has reached; and how a second begins, goes on and
-- reaches its keeping (profile).
use Rattle.std.specs.Prelude.{◌≡◌, ◌⊎◌, ℕ, suc, ◌+◌, Bool, true, false, Some, List, [], ◌∷◌, ◌++◌, Contains, length}
use Rattle.std.specs.Prelude.{map, filter}
use Rattle.activity_codec.specs.declared.values.Slot.{Slot}
use Rattle.activity_codec.specs.declared.values.Slot.TheVariants.{Driver, CoDriver}
use Rattle.trace_model.specs.declared.Card.{Card}
use Rattle.trace_model.specs.declared.Action.{Action}
use Rattle.trace_model.specs.Trace.{TraceSecond}
use Rattle.minute_model.specs.declared.Rule.{Rule}
use Rattle.log_model.specs.declared.lines.Break.{Break}
use Rattle.log_model.specs.declared.lines.Find.{Find}
use Rattle.log_model.specs.declared.lines.Refused.{Refused}
use Rattle.log_model.specs.Log.{RunLog, Phase, In, Keeping, is_torn_in, found_in}
use Rattle.log_model.specs.Slots.{Sitting, same_card, in_slot, refusal}
use Rattle.log_model.specs.Causes.{visit_places, in_the_slot}
use Rattle.log_model.specs.Course.{ToldSecond, Course, Visit, Before, visits, answered, moved_by, fresh, went}
use Rattle.history_model.specs.Presence.{Start}
use Rattle.run_unit_course.specs.Followed.{Lit}
use Rattle.run_unit_course.specs.Turn.{begins_with}
use Rattle.run_course.specs.Moments.{and_break, and_find, and_refused}
use Rattle.run_course.specs.Followed.{Progress, BookFollowsRun}
use Rattle.run_course.specs.Within.{IsTornFrom, IsFoundOf}
use Rattle.run_course.specs.Reached.{course_at, moved_at, IsUpTo, Reaches, IsTearAt, IsFindAt}

-- THE SECOND BEGINS, with its power-on if it is one: nothing is told of it yet.
abbrev pub ASecondIsReached : Type 0
ASecondIsReached = (rule : Rule) (start : Start) (from first : ℕ) (done : List TraceSecond) (p : Progress)
    → BookFollowsRun rule start from first done p →
    (span : List ToldSecond) → p.supply ≡ Lit span → (s : TraceSecond) → s.number ≡ p.next → s.has_power ≡ true →
    Reaches p s (In 0) p.log × (course_at p.log (went p.log done).before s (In 0)
    ≡ fresh (begins_with span) (went p.log done).before.slots)

-- AN ACTION begins, of which nothing is told yet;
abbrev pub AnActionIsReached : Type 0
AnActionIsReached = (p : Progress) (before : Before) (s : TraceSecond) (log : RunLog) (front : List Action) (a : Action)
    (rest : List Action) →
    s.actions ≡ front ++ a ∷ rest → Reaches p s (In (length front)) log →
    let n : ℕ = length front in
    let c : Course = course_at log before s (In n) in
    Reaches p s (In (suc n)) log
    × (course_at log before s (In (suc n)) ≡ answered n (refusal c.slots s.speed a) a c)
    × (moved_at log before s (In (suc n)) ≡ moved_by n (refusal c.slots s.speed a) a c.slots)

-- and the keeping, behind all actions.
abbrev pub TheKeepingIsReached : Type 0
TheKeepingIsReached = (p : Progress) (before : Before) (s : TraceSecond) (log : RunLog)
    → Reaches p s (In (length s.actions)) log →
    Reaches p s Keeping log × (course_at log before s Keeping ≡ course_at log before s (In (length s.actions)))

-- LINES OF THE MOMENT leave it reached.
abbrev pub LinesOfTheMoment : Type 0
LinesOfTheMoment = (p : Progress) (s : TraceSecond) (at : Phase) (log : RunLog) → Reaches p s at log →
    ((slot : Slot) (failed : Bool) (b : Break) → IsTearAt s at slot failed b → Reaches p s at (and_break log b))
    × ((f : Find) → IsFindAt s at f → Reaches p s at (and_find log f))
    × ((r : Refused) → Reaches p s at (and_refused log r))

-- WHO SITS in a slot was not torn out of it at this moment.
abbrev pub WhoSitsIsNotTorn : Type 0
WhoSitsIsNotTorn = (log : RunLog) (before : Before) (s : TraceSecond) (at : Phase) (slot : Slot) (x : Sitting) →
    in_slot (course_at log before s at).slots slot ≡ Some x → is_torn_in log s.number at slot ≡ false

-- how often a card is among these
abbrev pub times_of : Card → List Visit → ℕ
times_of card vs = length (filter (same_card card) (map (λ (v : Visit). v.card) vs))

-- These were torn out of a slot: they left it, and were torn in their order of that slot, and each as often as it is
-- among them.
pub record IsTornAt (u : ℕ) (slot : Slot) (out : List Visit) (old new : Course) : Type 0 where
  pub is : IsTornFrom slot old new
  pub torn : (at : Slot) → in_the_slot at (visit_places u new.torn) ≡ in_the_slot at (visit_places u old.torn)
      ++ in_the_slot at (visit_places u out)
  pub times : (card : Card) → times_of card new.torn ≡ times_of card old.torn + times_of card out
  pub stays : (v : Visit) → Contains old.torn v → Contains new.torn v
  pub new_ones : (v : Visit) → Contains out v → Contains new.torn v

-- A TEAR: what leaves the slot at this moment, or sits there, is torn out.
abbrev pub ATearIsSeen : Type 0
ATearIsSeen = (log : RunLog) (before : Before) (s : TraceSecond) (at : Phase) (slot : Slot) (failed : Bool) (b : Break)
    →
    IsTearAt s at slot failed b → IsUpTo log s.number at → is_torn_in log s.number at slot ≡ false →
    IsTornAt s.number slot ((moved_at log before s at).leaving slot ++ visits at slot (course_at log before s at).slots)
    (course_at log before s at) (course_at (and_break log b) before s at)

-- A FIND: of a card that enters now, of which nothing was found yet; the driver's before the co-driver's
abbrev pub AFindIsSeen : Type 0
AFindIsSeen = (log : RunLog) (before : Before) (s : TraceSecond) (at : Phase) (f : Find) → IsFindAt s at f
    → IsUpTo log s.number at →
    is_torn_in log s.number at f.slot ≡ false → found_in log s.number at f.slot ≡ []
    → (moved_at log before s at).enters f.slot ≡ true →
    (f.slot ≡ Driver → ((moved_at log before s at).enters CoDriver ≡ false) ⊎ (found_in log s.number at CoDriver ≡ []))
    →
    IsFoundOf s.number at f.slot f.verdict (course_at log before s at) (course_at (and_find log f) before s at)

-- A REFUSAL changes no course.
abbrev pub ARefusalIsSeen : Type 0
ARefusalIsSeen = (log : RunLog) (before : Before) (s : TraceSecond) (at : Phase) (r : Refused)
    → course_at (and_refused log r) before s at ≡ course_at log before s at

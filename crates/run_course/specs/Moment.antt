-- The moment that a second has reached, with all lines that tell of it so far: each tells what happened, and no more
-- (profile).
use Rattle.std.specs.Prelude.{◌≡◌, ◌⊎◌, ◌&&◌, ℕ, suc, ◌+◌, ◌≤◌, true, false, not, Option, Some, None, List, [], ◌∷◌}
use Rattle.std.specs.Prelude.{◌++◌, Contains, length, map, filter, flat_map}
use Rattle.std.specs.List.{AllByRecursion}
use Rattle.activity_codec.specs.declared.values.Slot.{Slot}
use Rattle.activity_codec.specs.Activity.{same_slot}
use Rattle.trace_model.specs.declared.Card.{Card}
use Rattle.trace_model.specs.declared.Action.{Action}
use Rattle.trace_model.specs.declared.Action.TheVariants.{Insert, Tear as Pull}
use Rattle.trace_model.specs.Trace.{TraceSecond}
use Rattle.run_model.specs.declared.Device.{Device}
use Rattle.run_model.specs.declared.Device.TheVariants.{Unit as Recorder}
use Rattle.minute_model.specs.declared.Rule.{Rule}
use Rattle.log_model.specs.declared.lines.Break.{Break}
use Rattle.log_model.specs.declared.lines.Break.TheVariants.{Tear}
use Rattle.log_model.specs.declared.lines.Find.{Find}
use Rattle.log_model.specs.declared.lines.Refused.{Refused}
use Rattle.log_model.specs.declared.lines.SlotFault.{SlotFault}
use Rattle.log_model.specs.declared.lines.Verdict.{Verdict}
use Rattle.log_model.specs.Log.{RunLog, Phase, In, same_phase, is_torn_in}
use Rattle.log_model.specs.Slots.{Sitting, same_card, in_slot, refusal}
use Rattle.log_model.specs.Causes.{device_of, is_cut, second_of, tears, places, visit_places, in_the_slot, refusals_at}
use Rattle.log_model.specs.Causes.{refusal_told, RoseBy, IsBegun, IsAtPowerOn}
use Rattle.log_model.specs.Course.{ToldSecond, Course, Visit, Before, answered, fresh, went}
use Rattle.history_model.specs.Presence.{Start}
use Rattle.run_unit_course.specs.Lines.{log_of}
use Rattle.run_unit_course.specs.Followed.{Lit}
use Rattle.run_unit_course.specs.Turn.{begins_with}
use Rattle.run_course.specs.Moments.{and_break, and_refused}
use Rattle.run_course.specs.Followed.{Progress, BookFollowsRun}
use Rattle.run_course.specs.Seconds.{GoesOnBy}
use Rattle.run_course.specs.Caused.{StandsBy}
use Rattle.run_course.specs.Reached.{IsBehind, course_at, IsMoment, IsUpTo}
use Rattle.run_course.specs.Lines.{times_of}

-- a find as its line tells it: the second, the moment, the slot, and what was found
abbrev pub find_as : Find → ℕ × Phase × Slot × Verdict
find_as f = (f.second, In f.begun, f.slot, f.verdict)

-- a find as the course of a second tells it, in the same four
abbrev pub found_at : ℕ → Visit × Verdict → ℕ × Phase × Slot × Verdict
found_at u f = (u, f.0.phase, f.0.slot, f.1)

-- how often something was found of a card
abbrev pub finds_by : Card → List (Visit × Verdict) → ℕ
finds_by card fs = length (filter (λ (f : Visit × Verdict). same_card card f.0.card) fs)

-- what was found of a card that entered, so far
abbrev pub found_by : Course → Visit → List Verdict
found_by c e = map (λ (f : Visit × Verdict). f.1)
    (filter (λ (f : Visit × Verdict). same_phase f.0.phase e.phase && same_slot f.0.slot e.slot) c.found)

-- it was judged once, or torn out at that moment
pub record IsJudgedBy (log : RunLog) (u : ℕ) (c : Course) (e : Visit) : Type 0 where
  pub once : length (found_by c e) ≤ 1
  pub missing : found_by c e ≡ [] → is_torn_in log u e.phase e.slot ≡ true

-- or it waits for that
pub record IsWaiting (waits : List Visit) (c : Course) (e : Visit) : Type 0 where
  pub among : Contains waits e
  pub none : found_by c e ≡ []

-- THE MOMENT that a second has reached by a log. Its new lines are of this second; they tell what its course is, and no
-- more, each failed call is a breakdown, and each breakdown of a card is told. These cards have entered at this moment,
-- and nothing was found of them yet.
pub record Moment (p : Progress) (before : Before) (s : TraceSecond) (at : Phase) (log : RunLog) (waits : List Visit)
    (mid now : Device → ℕ) : Type 0 where
  pub number : s.number ≡ p.next
  pub given : s.has_power ≡ true
  pub breaks : List Break
  pub breaks_are : log.breaks ≡ p.log.breaks ++ breaks
  pub breaks_here : AllByRecursion (λ (b : Break). second_of b ≡ p.next) breaks
  pub finds : List Find
  pub finds_are : log.finds ≡ p.log.finds ++ finds
  pub finds_here : AllByRecursion (λ (f : Find). f.second ≡ p.next) finds
  pub refused : List Refused
  pub refused_are : log.refused ≡ p.log.refused ++ refused
  pub up_to : IsUpTo log s.number at
  pub is : IsMoment s at
  pub refusals : map refusal_told refused ≡ refusals_at s.number (course_at log before s at).refused
  pub uncut : AllByRecursion (λ (b : Break). is_cut b ≡ false) breaks
  pub unit : mid Recorder ≤ now Recorder
  pub tear_lines : flat_map places (tears false (log_of breaks))
      ≡ visit_places s.number (course_at log before s at).pulled
  pub failed_tears : (slot : Slot)
      → in_the_slot slot (flat_map places (tears true (log_of breaks)))
      ≡ in_the_slot slot (visit_places s.number (course_at log before s at).torn)
  pub torn_cards : (card : Card)
      → RoseBy (times_of card (course_at log before s at).torn) (mid (device_of card)) (now (device_of card))
  pub calm_cards : (card : Card)
      → StandsBy (times_of card (course_at log before s at).torn) (mid (device_of card)) (now (device_of card))
  pub begun : AllByRecursion (IsBegun (s ∷ [])) breaks
  pub moments : AllByRecursion (IsAtPowerOn (not before.running)) breaks
  pub told_finds : map find_as finds ≡ map (found_at s.number) (course_at log before s at).found
  pub judged : (e : Visit) → Contains (course_at log before s at).entered e
      → IsWaiting waits (course_at log before s at) e ⊎ IsJudgedBy log s.number (course_at log before s at) e
  -- of a card no more was found than it entered, those aside that wait
  pub counted : (card : Card) → times_of card waits + finds_by card (course_at log before s at).found
      ≤ times_of card (course_at log before s at).entered
  pub found_now : AllByRecursion (λ (f : Visit × Verdict). IsBehind at f.0.phase → ⊥) (course_at log before s at).found
  pub waits_here : AllByRecursion (λ (e : Visit). e.phase ≡ at) waits

-- the lines of a second so far
abbrev pub goes_on : {p : Progress} {before : Before} {s : TraceSecond} {at : Phase} {log : RunLog} {waits : List Visit}
    {mid now : Device → ℕ} → Moment p before s at log waits mid now → GoesOnBy p log s
goes_on m = record {
  number = m.number;
  given = m.given;
  breaks = (m.breaks, m.breaks_are, m.breaks_here);
  finds = (m.finds, m.finds_are, m.finds_here);
}

-- THE SECOND BEGINS: at a power-on each card in a slot enters anew.
abbrev pub AMomentBegins : Type 0
AMomentBegins = (rule : Rule) (start : Start) (from first : ℕ) (done : List TraceSecond) (p : Progress)
    → BookFollowsRun rule start from first done p →
    (span : List ToldSecond) → p.supply ≡ Lit span → (s : TraceSecond) → s.number ≡ p.next → s.has_power ≡ true
    → (mid : Device → ℕ) →
    let c : Course = fresh (begins_with span) (went p.log done).before.slots in
    Moment p (went p.log done).before s (In 0) p.log c.entered mid mid
    × (course_at p.log (went p.log done).before s (In 0) ≡ c)

-- AN ACTION IS REFUSED;
abbrev pub AnActionIsRefused : Type 0
AnActionIsRefused = (p : Progress) (before : Before) (s : TraceSecond) (log : RunLog) (mid now : Device → ℕ)
    (front : List Action) (a : Action) (rest : List Action) →
    s.actions ≡ front ++ a ∷ rest → Moment p before s (In (length front)) log [] mid now →
    let c : Course = course_at log before s (In (length front)) in
    (fault : SlotFault) → refusal c.slots s.speed a ≡ Some fault →
    let later : RunLog = and_refused log (record { second = s.number; fault = fault; begun = suc (length front) }) in
    Moment p before s (In (suc (length front))) later [] mid now
    × (course_at later before s (In (suc (length front)))
    ≡ record c { refused = c.refused ++ (suc (length front), fault) ∷ [] })

-- the cards that an action lets enter
abbrev pub entering_by : ℕ → Action → List Visit
entering_by n (Insert slot card) = record { phase = In (suc n); slot = slot; card = card } ∷ []
entering_by n _ = []

-- the slot out of which an action pulls a card
abbrev pub pulls : Action → Option Slot
pulls (Pull slot) = Some slot
pulls _ = None

-- OR IT IS DONE, but that a card is pulled out: a card that is inserted waits to be judged.
abbrev pub AnActionIsDone : Type 0
AnActionIsDone = (p : Progress) (before : Before) (s : TraceSecond) (log : RunLog) (mid now : Device → ℕ)
    (front : List Action) (a : Action) (rest : List Action) →
    s.actions ≡ front ++ a ∷ rest → Moment p before s (In (length front)) log [] mid now → pulls a ≡ None →
    let c : Course = course_at log before s (In (length front)) in
    refusal c.slots s.speed a ≡ None →
    Moment p before s (In (suc (length front))) log (entering_by (length front) a) mid now
    × (course_at log before s (In (suc (length front))) ≡ answered (length front) None a c)

-- A CARD IS PULLED OUT, and that is told.
abbrev pub ACardIsPulled : Type 0
ACardIsPulled = (p : Progress) (before : Before) (s : TraceSecond) (log : RunLog) (mid now : Device → ℕ)
    (front : List Action) (slot : Slot) (rest : List Action) →
    s.actions ≡ front ++ Pull slot ∷ rest → Moment p before s (In (length front)) log [] mid now →
    let c : Course = course_at log before s (In (length front)) in
    (x : Sitting) → in_slot c.slots slot ≡ Some x →
    let later : RunLog = and_break log (Tear s.number slot false (suc (length front)) false) in
    Moment p before s (In (suc (length front))) later [] mid now
    × (course_at later before s (In (suc (length front))) ≡ answered (length front) None (Pull slot) c)

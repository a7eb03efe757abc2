-- How far a second has gone, and what later lines of the log leave of it (profile).
use Rattle.std.specs.Prelude.{◌≡◌, ◌⊎◌, ℕ, ◌+◌, ◌≤◌, Bool, false, ◌||◌, ◌&&◌, Some, None, List, [], ◌∷◌, ◌++◌, length}
use Rattle.std.specs.Prelude.{is_some, nat_eq, if◌then◌else◌}
use Rattle.activity_codec.specs.declared.values.Slot.{Slot}
use Rattle.activity_codec.specs.Activity.{same_slot}
use Rattle.trace_model.specs.declared.Action.{Action}
use Rattle.trace_model.specs.Trace.{TraceSecond}
use Rattle.log_model.specs.declared.lines.Break.{Break}
use Rattle.log_model.specs.declared.lines.Find.{Find}
use Rattle.log_model.specs.declared.lines.Refused.{Refused}
use Rattle.log_model.specs.Log.{RunLog, Phase, In, same_phase, cut_of, cut_in, kept_by, kept_after, tears_here}
use Rattle.log_model.specs.Log.{is_torn_in, found_in}
use Rattle.log_model.specs.Slots.{refusal}
use Rattle.log_model.specs.Course.{Before, acted, answered}
use Rattle.event_model.specs.Events.{course_by}

-- the log with one break more
abbrev pub and_break : RunLog → Break → RunLog
and_break log b = record log { breaks = log.breaks ++ b ∷ [] }

-- the log with one find more
abbrev pub and_find : RunLog → Find → RunLog
and_find log f = record log { finds = log.finds ++ f ∷ [] }

-- the log with one refusal more
abbrev pub and_refused : RunLog → Refused → RunLog
and_refused log r = record log { refused = log.refused ++ r ∷ [] }

-- a find stands at a moment of a slot
abbrev pub finds_here : ℕ → Phase → Slot → Find → Bool
finds_here u p slot f = nat_eq f.second u && same_phase (In f.begun) p && same_slot f.slot slot

-- what a break more tells of a second: its cut, where none was told before, and its tear
pub record BreakSeen (log : RunLog) (b : Break) (u : ℕ) : Type 0 where
  pub cut : cut_in (and_break log b) u ≡ (if is_some (cut_in log u) then cut_in log u else cut_of u b)
  pub torn : (p : Phase) (slot : Slot)
      → is_torn_in (and_break log b) u p slot ≡ (is_torn_in log u p slot || tears_here u p slot b)
  pub found : (p : Phase) (slot : Slot) → found_in (and_break log b) u p slot ≡ found_in log u p slot
  pub kept : kept_by u b ≡ None → kept_after (and_break log b) u ≡ kept_after log u

-- A BREAK MORE tells that of every second, and nothing else.
abbrev pub ABreakMoreIsSeen : Type 0
ABreakMoreIsSeen = (log : RunLog) (b : Break) (u : ℕ) → BreakSeen log b u

-- what a find more tells of a second: itself, behind those before, at its moment and slot alone
pub record FindSeen (log : RunLog) (f : Find) (u : ℕ) : Type 0 where
  pub cut : cut_in (and_find log f) u ≡ cut_in log u
  pub torn : (p : Phase) (slot : Slot) → is_torn_in (and_find log f) u p slot ≡ is_torn_in log u p slot
  pub found : (p : Phase) (slot : Slot) →
      found_in (and_find log f) u p slot ≡ found_in log u p slot
      ++ (if finds_here u p slot f then f.verdict ∷ [] else [])
  pub kept : kept_after (and_find log f) u ≡ kept_after log u

-- A FIND MORE tells that of every second, and nothing else.
abbrev pub AFindMoreIsSeen : Type 0
AFindMoreIsSeen = (log : RunLog) (f : Find) (u : ℕ) → FindSeen log f u

-- whatever refusals a log tells, how a second went is told by it as before
pub record RefusalSeen (log : RunLog) (refused : List Refused) (u : ℕ) : Type 0 where
  pub cut : cut_in (record log { refused = refused }) u ≡ cut_in log u
  pub torn : (p : Phase) (slot : Slot)
      → is_torn_in (record log { refused = refused }) u p slot ≡ is_torn_in log u p slot
  pub found : (p : Phase) (slot : Slot) → found_in (record log { refused = refused }) u p slot ≡ found_in log u p slot
  pub kept : kept_after (record log { refused = refused }) u ≡ kept_after log u

-- REFUSALS change nothing of any second.
abbrev pub ARefusalMoreIsNotSeen : Type 0
ARefusalMoreIsNotSeen = (log : RunLog) (refused : List Refused) (u : ℕ) → RefusalSeen log refused u

-- two logs tell the same of a second up to its n-th action: the one no cut, the other none or one that came behind that
-- action
pub record SameUpTo (log later : RunLog) (u n : ℕ) : Type 0 where
  pub none : cut_in log u ≡ None
  pub behind : (cut_in later u ≡ None) ⊎ ((begun : ℕ) × (cut_in later u ≡ Some begun) × (n ≤ begun))
  pub torn : (m : ℕ) (slot : Slot) → m ≤ n → is_torn_in later u (In m) slot ≡ is_torn_in log u (In m) slot
  pub found : (m : ℕ) (slot : Slot) → m ≤ n → found_in later u (In m) slot ≡ found_in log u (In m) slot

-- lines that come later change no earlier moment of the second
abbrev pub LaterLinesChangeNoMoment : Type 0
LaterLinesChangeNoMoment = (log later : RunLog) (before : Before) (s : TraceSecond) (n : ℕ) →
    SameUpTo log later s.number n → course_by later before s n ≡ course_by log before s n

-- an action more, with so many before it, whatever the log tells of it
abbrev pub AnActionMoreIsActed : Type 0
AnActionMoreIsActed = (log : RunLog) (before : Before) (s : TraceSecond) (front : List Action) (a : Action)
    (rest : List Action) →
    s.actions ≡ front ++ a ∷ rest →
    course_by log before s (length front + 1) ≡ acted log s (length front) a (course_by log before s (length front))

-- nothing was torn or found at an action's moment
pub record IsStill (log : RunLog) (u n : ℕ) : Type 0 where
  pub torn : (slot : Slot) → is_torn_in log u (In n) slot ≡ false
  pub found : (slot : Slot) → found_in log u (In n) slot ≡ []

-- an action more, while no cut stands in the second, and of whose moment nothing is told yet
abbrev pub OneActionMore : Type 0
OneActionMore = (log : RunLog) (before : Before) (s : TraceSecond) (front : List Action) (a : Action)
    (rest : List Action) →
    s.actions ≡ front ++ a ∷ rest → cut_in log s.number ≡ None → IsStill log s.number (length front + 1) →
    course_by log before s (length front + 1)
    ≡ answered (length front) (refusal (course_by log before s (length front)).slots s.speed a) a
    (course_by log before s (length front))

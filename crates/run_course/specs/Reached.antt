-- How far a second with power has gone, by what the log tells of it so far (profile).
use Rattle.std.specs.Prelude.{◌≡◌, ℕ, zero, suc, ◌<◌, ◌≤◌, Bool, true, false, not, Option, Some, None, [], length}
use Rattle.std.specs.Prelude.{slice_get}
use Rattle.activity_codec.specs.declared.values.Slot.{Slot}
use Rattle.trace_model.specs.declared.Action.{Action}
use Rattle.trace_model.specs.Trace.{TraceSecond}
use Rattle.log_model.specs.declared.lines.Break.{Break}
use Rattle.log_model.specs.declared.lines.Break.TheVariants.{Tear}
use Rattle.log_model.specs.declared.lines.Find.{Find}
use Rattle.log_model.specs.Log.{RunLog, Phase, In, Keeping, phase_of, cut_in, is_torn_in, found_in}
use Rattle.log_model.specs.Slots.{refusal}
use Rattle.log_model.specs.Course.{Course, Before, Moved, both_told, unmoved, moved_by, answered, fresh}
use Rattle.event_model.specs.Events.{course_by}
use Rattle.run_course.specs.Followed.{Progress}
use Rattle.run_course.specs.Seconds.{GoesOnBy}

-- a moment is behind another one
abbrev pub IsBehind : Phase → Phase → Type 0
IsBehind (In n) (In m) = n < m
IsBehind (In n) Keeping = Unit {0}
IsBehind Keeping p = ⊥

-- a moment of a second: its power-on, one of its actions, or its keeping
abbrev pub IsMoment : TraceSecond → Phase → Type 0
IsMoment s (In n) = n ≤ length s.actions
IsMoment s Keeping = Unit {0}

-- what an action that has n before it does by itself: it is carried out or refused; where there is none, nothing
abbrev pub course_with : ℕ → Option Action → (speed : ℕ) → Course → Course
course_with n None speed c = c
course_with n (Some a) speed c = answered n (refusal c.slots speed a) a c

-- the slots that a card enters with that action, and the cards that are taken out of them
abbrev pub moved_with : ℕ → Option Action → (speed : ℕ) → Course → Moved
moved_with n None speed c = unmoved false
moved_with n (Some a) speed c = moved_by n (refusal c.slots speed a) a c.slots

-- the course of a second at a moment before the log tells of it: the power-on, an action by itself, or the keeping
abbrev pub begun_at : RunLog → Before → TraceSecond → Phase → Course
begun_at log before s (In zero) = fresh (not before.running) before.slots
begun_at log before s (In (suc n)) = course_with n (slice_get s.actions n) s.speed (course_by log before s n)
begun_at log before s Keeping = course_by log before s (length s.actions)

-- the slots that a card enters at that moment, and the cards that are taken out of them
abbrev pub moved_at : RunLog → Before → TraceSecond → Phase → Moved
moved_at log before s (In zero) = unmoved (not before.running)
moved_at log before s (In (suc n)) = moved_with n (slice_get s.actions n) s.speed (course_by log before s n)
moved_at log before s Keeping = unmoved false

-- THE COURSE of a second at a moment: what it does by itself, and what the log tells of it
abbrev pub course_at : RunLog → Before → TraceSecond → Phase → Course
course_at log before s at = both_told log s.number at (moved_at log before s at) (begun_at log before s at)

-- The log tells of no cut in a second, and of nothing behind a moment of it.
pub record IsUpTo (log : RunLog) (u : ℕ) (at : Phase) : Type 0 where
  pub uncut : cut_in log u ≡ None
  pub torn : (p : Phase) (slot : Slot) → IsBehind at p → is_torn_in log u p slot ≡ false
  pub found : (p : Phase) (slot : Slot) → IsBehind at p → found_in log u p slot ≡ []

-- A SECOND HAS REACHED A MOMENT by this log, where the run went so before it
pub record Reaches (p : Progress) (s : TraceSecond) (at : Phase) (log : RunLog) : Type 0 where
  pub goes : GoesOnBy p log s
  pub up_to : IsUpTo log s.number at
  pub is : IsMoment s at

-- a break is a tear of this slot at a moment of a second
abbrev pub IsTearAt : TraceSecond → Phase → Slot → (failed : Bool) → Break → Type 0
IsTearAt s at slot failed b =
    (begun : ℕ) × (late : Bool) × (b ≡ Tear s.number slot failed begun late) × (phase_of begun late ≡ at)
    × (begun ≤ length s.actions) × (late ≡ true → begun ≡ length s.actions)

-- a find is of a moment of a second
pub record IsFindAt (s : TraceSecond) (at : Phase) (f : Find) : Type 0 where
  pub second : f.second ≡ s.number
  pub begun : In f.begun ≡ at

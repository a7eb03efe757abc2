-- What was done in each second of a run, beside its course: the actions that were carried out, each with the slots
-- before and after it, and the slots behind the power-on and of the second itself, behind its actions (profile).
use Rattle.std.specs.Prelude.{ℕ, ◌+◌, Bool, true, not, ◌&&◌, List, [], ◌∷◌, ◌++◌, is_some, nat_eq, if◌then◌else◌}
use Rattle.std.specs.List.{list_any}
use Rattle.event_model.specs.trace_model.declared.Action.{Action}
use Rattle.event_model.specs.trace_model.Trace.{TraceSecond}
use Rattle.history_model.specs.log_model.Log.{RunLog, In, cut_in}
use Rattle.history_model.specs.log_model.Slots.{Slots, refusal}
use Rattle.history_model.specs.log_model.Course.{Course, ToldSecond, Before, begins, acted, all_acted, both_told}
use Rattle.history_model.specs.log_model.Course.{unmoved, fresh}
use Rattle.history_model.specs.log_model.Course.{has_power, second_told, before_next, not_begun}
use Rattle.history_model.specs.log_model.Causes.{cuts, second_of}

-- an action that was carried out: how many of its second came before it, and the slots before and after it
pub record CarriedOut : Type 0 where
  pub before : ℕ
  pub action : Action
  pub slots : Slots
  pub after : Slots

-- those of these actions that had begun and were not refused, with n before them
abbrev pub carried_from : RunLog → TraceSecond → ℕ → List Action → Course → List CarriedOut
carried_from log s n [] c = []
carried_from log s n (a ∷ actions) c =
    (if begins (cut_in log s.number) n && not (is_some (refusal c.slots s.speed a))
    then record { before = n; action = a; slots = c.slots; after = (acted log s n a c).slots } ∷ [] else [])
    ++ carried_from log s (n + 1) actions (acted log s n a c)

-- what was done in a second of a run: how it went, the slots behind its power-on, the actions that were carried out,
-- and the slots behind these
pub record Done : Type 0 where
  pub told : ToldSecond
  pub powered : Slots
  pub carried : List CarriedOut
  pub itself : Slots

-- the course of a second with power up to its actions: the power-on, if it is one
abbrev pub course_powered : RunLog → Before → TraceSecond → Course
course_powered log before s = both_told log s.number (In 0) (unmoved (not before.running))
    (fresh (not before.running) before.slots)

-- what is done in a second by this log, where it has this to know of those before it
abbrev pub done_by : RunLog → Before → TraceSecond → Done
done_by log before s = record {
  told = second_told log before s;
  powered = if has_power before s then (course_powered log before s).slots else before.slots;
  carried = if has_power before s then carried_from log s 0 s.actions (course_powered log before s) else [];
  itself = if has_power before s then (all_acted log s 0 s.actions (course_powered log before s)).slots
      else before.slots;
}

-- what is done in these seconds one after another, where the first has this to know of those before it
abbrev pub done_from : RunLog → Before → List TraceSecond → List Done
done_from log before [] = []
done_from log before (s ∷ ss) = done_by log before s ∷ done_from log (before_next before (second_told log before s)) ss

-- what is done in the seconds of a run
unfoldable pub done_of : RunLog → List TraceSecond → List Done
done_of log ss = done_from log not_begun.before ss

-- a call on the unit failed in a second
abbrev pub has_failed_in : RunLog → ℕ → Bool
has_failed_in log u = list_any (λ b. nat_eq (second_of b) u) (cuts true log)

-- How far a run has travelled, where the limit of one span is not known yet.
use Rattle.std.proofs.Common.{◌≡◌, ℕ, Bool, true, false, cond, ◌||◌, nat_lt, None, List, [], ◌∷◌, ◌++◌, length, ap, sym, subst}
use Rattle.std.specs.Prelude.{unwrap_or}
use Rattle.std.specs.List.{AllByRecursion}
use Rattle.minute_model.specs.declared.Rule.{Rule}
use Rattle.minute_model.specs.Activity.{last}
use Rattle.log_model.specs.declared.lines.Break.{Break}
use Rattle.log_model.specs.Log.{RunLog}
use Rattle.log_model.specs.Course.{ToldSecond}
use Rattle.history_model.specs.History.{decided_of, cut_second, limit_by, limit_of, any_long}
use Rattle.history_model.specs.Growth.{closed_limit}
use Rattle.history_model.specs.Book.{found}
use Rattle.history_model.proofs.Closing.{agree-closed}
use Rattle.run_unit_course.specs.Followed.{IsKnown}
use Rattle.run_unit_course.specs.Legs.{IsLeg, AreLegs}
use Rattle.run_unit_course.proofs.Legs.{nothing_of, legs-nothing, legs-agree, legs-known, legs-parts}

-- THE LEGS SO FAR, where the limit of one span is not known yet
pub whole-legs : (rule : Rule) (log : RunLog) (found : List Break) (front : List (List ToldSecond)) (span : List ToldSecond) (short : List (List ToldSecond)) (legs : List ℕ) (k leg : ℕ) → AllByRecursion (IsKnown rule found) front → nat_lt 1 (length span) ≡ true →
    any_long short ≡ false → AllByRecursion (λ (span : List ToldSecond). decided_of rule span ≡ []) short → AreLegs rule (closed_limit log) 0 front legs → IsLeg k (decided_of rule span) leg →
    AreLegs rule (limit_of log) k (front ++ span ∷ short) (legs ++ leg ∷ nothing_of short)
whole-legs rule log found front span short legs k leg known long none nothing closed is =
    legs-parts rule (limit_of log) k front (span ∷ short) legs (leg ∷ nothing_of short)
    (legs-agree rule (λ s later. limit_of log s (later ++ span ∷ short)) (closed_limit log) k front legs (agree-closed log (span ∷ short) (ap (λ (b : Bool). b || any_long short) long) front) (legs-known rule found log 0 k front legs known closed))
    (subst (λ (b : Bool). IsLeg (unwrap_or (cond b (limit_by log (cut_second (last span))) None) k) (decided_of rule span) leg) (sym none) is, legs-nothing rule (limit_of log) k short nothing)

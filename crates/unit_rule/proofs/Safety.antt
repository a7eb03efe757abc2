-- What holds of the unit at the end of a run whose book follows the history.
use Rattle.std.proofs.Common.{ℕ, List, [], Contains, sym, subst}
use Rattle.std.specs.Prelude.{option_to_list}
use Rattle.std.proofs.lemmas.List.Elements.{All-contains, Contains-append_left}
use Rattle.run_unit_course.specs.run_model.declared.Device.TheVariants.{Unit as Recorder}
use Rattle.tach_media.specs.Medium.{State, IsCoherent}
use Rattle.run_unit_course.specs.log_model.declared.lines.Mark.{Mark}
use Rattle.run_unit_course.specs.history_model.Minutes.{HistoryMinute}
use Rattle.run_unit_course.specs.history_model.Book.{Book, all, Follows}
use Rattle.safety_model.specs.device_rule.Views.{UnitView, unit_view}
use Rattle.safety_model.specs.device_rule.Rules.{Acknowledges}
use Rattle.safety_model.proofs.device_rule.Viewed.{seen-coherent}
use Rattle.safety_model.specs.Unit.{marks_of, UnitMarkHolds, UnitSafe}
use Rattle.safety_model.proofs.Giving.{unit-minutes, unit-marked}
use Rattle.unit_rule.specs.Rule.{Started, seen_unit}
use Rattle.unit_rule.specs.Marks.{MarkIsKept, UnitFollowsBook}

module _ (s : Started) (past : List HistoryMinute) (lost : List (List HistoryMinute)) (due : ℕ) (b : Book) (marks : List Mark) (unit : State) (whole : IsCoherent unit) (follows : Follows past lost b) (h : UnitFollowsBook s due b marks unit) where
  mark-holds : (m : Mark) → MarkIsKept s b unit m → UnitMarkHolds s.days past lost unit m
  mark-holds m held = record {
    i = held.sure.0;
    minute = held.sure.2;
    stands = subst (λ (zs : List HistoryMinute). Contains zs held.sure.0) (sym follows.front.1) (Contains-append_left (all b) follows.front.0 held.sure.0 (Contains-append_left b.sure (option_to_list b.maybe) held.sure.0 held.sure.1));
    clock = (held.holds [] []).0;
    prompt = held.prompt;
    shown = unit-marked s.days past lost [] [] b follows s.first s.began due unit held.sure.0 m.clock (seen-coherent (unit_view [] []) unit whole) (h.unit_holds [] []) held.began
        (subst (λ (n : ℕ). Acknowledges (λ (u : UnitView). u.last) n m.clock (seen_unit [] [] unit)) (sym held.sure.2) (held.holds [] [])) held.sure.1;
  }

  -- the unit's part of the theorem
  pub unit-safe : UnitSafe s.days past lost marks s.began unit
  unit-safe = record {
    minutes = unit-minutes s.days past lost [] [] b follows s.first s.began due unit (h.unit_holds [] []);
    decodes = h.decodes;
    in_order = h.marks_rise;
    marked = λ m at. mark-holds m (All-contains (MarkIsKept s b unit) (marks_of Recorder marks) m h.marks_hold at);
  }

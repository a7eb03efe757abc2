-- What the last-kept minutes of the unit's images tell, by the book that follows the history.
use Rattle.std.proofs.Common.{ℕ, ◌≤◌, All, Option, Some, None, List, [], ◌∷◌, ◌++◌, Contains, refl, subst}
use Rattle.std.proofs.lemmas.List.Elements.{All-contains}
use Rattle.log_model.specs.run_model.declared.Device.TheVariants.{Unit as Recorder}
use Rattle.tach_media.specs.Medium.{State}
use Rattle.unit_minutes.specs.unit_model.Days.{ShownDay}
use Rattle.unit_minutes.specs.unit_model.Image.{last_kept}
use Rattle.log_model.specs.declared.lines.Mark.{Mark}
use Rattle.device_calls.specs.history_model.Minutes.{HistoryMinute}
use Rattle.device_calls.specs.history_model.Book.{Book, IsNext, IsMark, Follows}
use Rattle.device_calls.specs.device_rule.Views.{unit_view}
use Rattle.device_calls.specs.device_rule.Rules.{Showed}
use Rattle.device_calls.specs.device_rule.Filling.{FillsDays}
use Rattle.device_calls.specs.safety_model.Recording.{MayCome}
use Rattle.device_calls.specs.safety_model.Unit.{UnitShows, UnitSafe, marks_of}
use Rattle.device_calls.proofs.safety_model.Giving.{passed-reached}
use Rattle.device_calls.specs.unit_rule.Rule.{Started}
use Rattle.device_calls.specs.unit_rule.Marks.{MarkIsKept, UnitFollowsBook}
use Rattle.device_calls.proofs.unit_rule.Moves.{shown-last, shown-days}
use Rattle.recorder_with_cards.specs.LastKept.{TellsLast}

-- an image shows the start and minutes of the history, none of them later than its last-kept minute, which is the start's or that of one of them
record ShowsLast (start : List ShownDay) (first : ℕ) (past : List HistoryMinute) (lost : List (List HistoryMinute)) (x : List ℕ) : Type 0 where
  pub shown : UnitShows start past lost x
  pub last : IsMark first shown.some (last_kept x)
  pub until : All (λ i. i.minute ≤ last_kept x) shown.some

module _ (s : Started) (past : List HistoryMinute) (lost : List (List HistoryMinute)) (due : ℕ) (b : Book) (marks : List Mark) (unit : State) (follows : Follows past lost b) (h : UnitFollowsBook s due b marks unit) where
  may-come : (some : List HistoryMinute) (next : Option HistoryMinute) → IsNext b some next → MayCome past lost some next
  may-come some None comes = tt
  may-come some (Some i) comes = passed-reached past lost b (some ++ i ∷ []) follows comes

  shows-last : (x : List ℕ) → Showed (FillsDays s.days) s.first b (unit_view [] [] x) → ShowsLast s.days s.first past lost x
  shows-last x w = record {
    shown = record {
      some = w.past;
      passed = passed-reached past lost b w.past follows w.reached;
      next = w.next;
      comes = may-come w.past w.next w.comes;
      days = subst (FillsDays s.days w.next w.past) (shown-days [] [] x) w.days;
    };
    last = subst (λ (n : ℕ). IsMark s.first w.past n) (shown-last [] [] x) w.mark;
    until = subst (λ (n : ℕ). All (λ (i : HistoryMinute). i.minute ≤ n) w.past) (shown-last [] [] x) w.until;
  }

  since-last : (x : List ℕ) → unit.left_since s.began x → ShowsLast s.days s.first past lost x
  since-last x left = shows-last x ((h.unit_holds [] []).since (unit_view [] [] x) (x, left, refl))

  held-mark : (m : Mark) → Contains (marks_of Recorder marks) m → MarkIsKept s b unit m
  held-mark m at = All-contains (MarkIsKept s b unit) (marks_of Recorder marks) m h.marks_hold at

  -- THE UNIT'S PART OF THE THEOREM, by the minutes with which an image shows its last-kept one; and the last-kept minutes
  pub safe-last : UnitSafe s.days past lost marks s.began unit → (safe : UnitSafe s.days past lost marks s.began unit) × TellsLast s.first safe
  safe-last was = (
    record was { minutes = λ x left. (since-last x left).shown },
    record {
      last = λ x left. (since-last x left).last;
      until = λ x left. (since-last x left).until;
      began = λ m at. (held-mark m at).began;
      held = λ m at x left. subst (λ (n : ℕ). m.minute ≤ n) (shown-last [] [] x) (((held-mark m at).holds [] []).1 (unit_view [] [] x) (x, left, refl));
    },
  )

-- The last-kept minute of a unit is the newest of its book.
use Rattle.std.proofs.Common.{◌≡◌, ℕ, ◌≤◌, None, List, [], ◌++◌, All, refl, subst, sym}
use Rattle.tach_media.specs.Medium.{State}
use Rattle.run_course.specs.log_model.declared.lines.Mark.{Mark}
use Rattle.unit_rule.specs.unit_model.Image.{last_kept}
use Rattle.run_course.specs.history_model.Minutes.{HistoryMinute}
use Rattle.run_course.specs.history_model.Book.{Book, IsMark}
use Rattle.run_course.proofs.history_model.Books.{all-none, mark-more}
use Rattle.unit_rule.specs.device_rule.Views.{UnitView, unit_view}
use Rattle.run_promise.specs.Rule.{Started}
use Rattle.run_promise.specs.Marks.{UnitFollowsBook}
use Rattle.run_promise.specs.Going.{IsTakenAt}
use Rattle.run_promise.proofs.Accounts.{last-of}

pub taken-last : (s : Started) (due : ℕ) (p b q : Book) (marks : List Mark) (new more : List HistoryMinute) (unit : State) → b.sure ≡ p.sure ++ new → q.sure ≡ b.sure ++ more → b.maybe ≡ None → UnitFollowsBook s due b marks unit →
    (u : List ℕ) → unit.may_leave u → IsTakenAt s.first p q new (last_kept u)
taken-last s due p b q marks new more unit kept later none h u on =
    let v : UnitView = unit_view [] [] u in
    let shows = (h.unit_holds [] []).now v (u, on, refl) in
    let mark : IsMark s.first b.sure (last_kept u) = subst (λ (k : ℕ). IsMark s.first b.sure k) (last-of [] [] u) (subst (λ (is : List HistoryMinute). IsMark s.first is v.last) (all-none b none) shows.mark) in
    record {
      mark = subst (λ (is : List HistoryMinute). IsMark s.first is (last_kept u)) (sym later) (mark-more s.first b.sure more (last_kept u) mark);
      newest = subst (λ (is : List HistoryMinute). All (λ (i : HistoryMinute). i.minute ≤ last_kept u) is) kept (subst (λ (k : ℕ). All (λ (i : HistoryMinute). i.minute ≤ k) b.sure) (last-of [] [] u) shows.sure);
    }

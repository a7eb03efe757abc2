-- A card is accepted: what the log's accounts ask of the minute that the unit had kept last.
use Rattle.std.proofs.Common.{◌≡◌, ℕ, ◌<◌, List, [], ◌++◌, refl, subst}
use Rattle.tach_media.specs.Medium.{State}
use Rattle.run_crew.specs.log_model.declared.lines.Mark.{Mark}
use Rattle.device_calls.specs.unit_model.Image.{last_kept}
use Rattle.device_calls.specs.history_model.Minutes.{HistoryMinute}
use Rattle.device_calls.specs.history_model.Book.{Book}
use Rattle.device_calls.proofs.history_model.Books.{mark-earlier}
use Rattle.device_calls.specs.unit_rule.Rule.{Started, once_mended}
use Rattle.device_calls.specs.unit_rule.Marks.{UnitFollowsBook}
use Rattle.device_calls.proofs.unit_rule.Moves.{shown-last}
use Rattle.device_calls.specs.device_rule.Views.{unit_view}
use Rattle.device_calls.specs.unit_rule.Safe.{Devices}
use Rattle.run_promise.specs.Found.{Found}
use Rattle.run_promise.specs.Between.{RunLedger, LedgerStandsPowered}
use Rattle.run_promise.specs.Going.{IsTakenAt}
use Rattle.run_promise.proofs.Taken.{taken-last}

-- It is earlier than each minute that is decided later.
pub last-early : (s : Started) (due : ℕ) (b : Book) (marks : List Mark) (unit : State) → UnitFollowsBook s due b marks unit → (u : List ℕ) → unit.may_leave u → last_kept u < due
last-early s due b marks unit h u on =
    let held = h.unit_holds [] [] in
    subst (λ (n : ℕ). n < due) (shown-last [] [] u) (mark-earlier s.first due b (unit_view [] [] u).last held.order (held.now (unit_view [] [] u) (u, on, refl)).mark)

-- And it is what an acceptance is taken at: where the book that is carried then has all that was sure before the second (`p`) and what the
-- second has decided (`new`), and what is sure behind the second (`q`) goes on with it.
pub taken-lit : (f : Found) (w : RunLedger) (d : Devices) (p q : Book) (new more : List HistoryMinute) → LedgerStandsPowered f w d → w.book.sure ≡ p.sure ++ new → q.sure ≡ w.book.sure ++ more → (u : List ℕ) → d.unit.may_leave u → IsTakenAt f.unit.first p q new (last_kept u)
taken-lit f w d p q new more lit kept later u on = taken-last (once_mended f.unit) w.due p w.book q w.marks new more d.unit kept later lit.none lit.unit u on

-- What is followed, carried and accounted for at the end of a run gives what the crash-safety theorem asks.
use Rattle.std.proofs.Common.{◌≡◌, ℕ, List, subst, sym}
use Rattle.run_course.specs.trace_model.declared.Card.{Card}
use Rattle.unit_rule.specs.unit_model.Image.{last_kept}
use Rattle.run_course.specs.log_model.Log.{RunLog}
use Rattle.run_course.specs.log_model.Course.{went}
use Rattle.run_course.specs.history_model.History.{unit_history, with_lost}
use Rattle.run_course.specs.history_model.Book.{Book, Follows}
use Rattle.run_course.specs.Followed.{Progress, BookFollowsRun}
use Rattle.unit_rule.specs.safety_model.Recording.{Recording, start_of, history_of, lost_of}
use Rattle.run_promise.specs.Between.{AreBrought}
use Rattle.run_promise.specs.Accounts.{HasAccounts}
use Rattle.run_promise.specs.Going.{AreAccounted}
use Rattle.run_promise.proofs.Accounts.{accounts-brought}
use Rattle.run_promise.proofs.Going.{end-accounted}

pub ends-follow : (r : Recording) (from first : ℕ) (p : Progress) (b : Book) → BookFollowsRun r.rule (start_of r) from first r.trace p → p.log ≡ r.log → b ≡ p.book → Follows (history_of r) (lost_of r) b
ends-follow r from first p b f log book =
    subst (λ (b : Book). Follows (history_of r) (lost_of r) b) (sym book)
    (subst (λ (l : RunLog). Follows (unit_history r.rule (start_of r) l (went l r.trace).told) (with_lost r.rule (start_of r) l (went l r.trace).told) p.book) log f.follows)

pub ends-brought : (r : Recording) (c : Card) (from : ℕ) (p : Progress) (b : Book) (ks : List ℕ) → BookFollowsRun r.rule (start_of r) from (last_kept r.unit) r.trace p → p.log ≡ r.log → b ≡ p.book →
    AreAccounted r c (last_kept r.unit) r.trace p ks → AreBrought r c b ks
ends-brought r c from p b ks f log book accounts =
    accounts-brought r c from b f.order f.early (ends-follow r from (last_kept r.unit) p b f log book) ks
    (subst (λ (b : Book). HasAccounts r c (last_kept r.unit) b ks) (sym book) (end-accounted r c (last_kept r.unit) p ks log accounts))

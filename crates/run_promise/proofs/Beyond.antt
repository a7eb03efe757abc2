-- What the history of a run has beyond its book is later than what the unit has kept.
use Rattle.std.proofs.Common.{inl, inr, ℕ, ◌+◌, ◌/◌, ◌<◌, ◌≤◌, List, [], ◌∷◌, ◌++◌, All, subst, arith, length}
use Rattle.std.proofs.lemmas.List.Elements.{All-nil, All-cons, All-weaker, All-contains}
use Rattle.tach_media.specs.Medium.{State}
use Rattle.run_course.specs.log_model.Spans.{AreInOrder}
use Rattle.unit_rule.specs.unit_model.Image.{last_kept}
use Rattle.run_course.specs.history_model.Minutes.{HistoryMinute}
use Rattle.run_course.specs.history_model.Growth.{Rises}
use Rattle.run_course.specs.history_model.Book.{Book, all, Follows, IsMark}
use Rattle.run_course.proofs.history_model.Told.{rises}
use Rattle.unit_rule.specs.Recording.{Recording, start_of, history_of, lost_of}
use Rattle.run_promise.specs.Between.{IsFollowed}

-- a split of minutes that rise
pub record Splits (from until : ℕ) (xs ys : List HistoryMinute) : Type 0 where
  pub at : ℕ
  pub behind : Rises at ys until
  pub above : from ≤ at
  pub before : All (λ (i : HistoryMinute). i.minute < at) xs

pub splits : (from until : ℕ) (xs ys : List HistoryMinute) → Rises from (xs ++ ys) until → Splits from until xs ys
splits from until [] ys h = record { at = from; behind = h; above = omega arith; before = All-nil (λ (i : HistoryMinute). i.minute < from) }
splits from until (x ∷ xs) ys h =
    let s = splits (x.minute + 1) until xs ys h.1 in
    let first : from ≤ x.minute = h.0 in
    record { at = s.at; behind = s.behind; above = omega (arith, s.above, first); before = All-cons (λ (i : HistoryMinute). i.minute < s.at) x xs (omega (arith, s.above)) s.before }

pub rises-above : (from until : ℕ) (ys : List HistoryMinute) → Rises from ys until → All (λ (j : HistoryMinute). from ≤ j.minute) ys
rises-above from until [] h = All-nil (λ (j : HistoryMinute). from ≤ j.minute)
rises-above from until (y ∷ ys) h =
    let first : from ≤ y.minute = h.0 in
    All-cons (λ (j : HistoryMinute). from ≤ j.minute) y ys first (All-weaker (λ (j : HistoryMinute). y.minute + 1 ≤ j.minute) (λ j. from ≤ j.minute) (λ j le. omega (arith, le, first)) ys (rises-above (y.minute + 1) until ys h.1))

-- what comes behind the marks of minutes that rise is later than these
pub later-than : (first from until last : ℕ) (xs ys : List HistoryMinute) → first < from → Rises from (xs ++ ys) until → IsMark first xs last → All (λ (j : HistoryMinute). last < j.minute) ys
later-than first from until last xs ys early h mark =
    let s = splits from until xs ys h in
    let low : last < s.at = go s mark in
    All-weaker (λ (j : HistoryMinute). s.at ≤ j.minute) (λ j. last < j.minute) (λ j le. omega (arith, le, low)) ys (rises-above s.at until ys s.behind)
  where
    go : (s : Splits from until xs ys) → IsMark first xs last → last < s.at
    go s (inl is) = omega (arith, is, early, s.above)
    go s (inr (i, at, is)) = let lt : i.minute < s.at = All-contains (λ (j : HistoryMinute). j.minute < s.at) xs i s.before at in omega (arith, lt, is)

pub follows-later : (r : Recording) (b : Book) (unit : State) (from first : ℕ) → AreInOrder from r.trace → first < from / 60 → (follows : Follows (history_of r) (lost_of r) b) → ((u : List ℕ) → unit.may_leave u → IsMark first (all b) (last_kept u)) → IsFollowed r b unit
follows-later r b unit from first order early follows marks = record {
  follows = follows;
  later = λ u on. later-than first (from / 60) ((from + length r.trace) / 60) (last_kept u) (all b) follows.front.0 early
      (subst (λ (past : List HistoryMinute). Rises (from / 60) past ((from + length r.trace) / 60)) follows.front.1 (rises from r.rule (start_of r) r.log r.trace order)) (marks u on);
}

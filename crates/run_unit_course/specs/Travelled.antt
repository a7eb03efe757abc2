-- Which last-kept minute and which leg a unit may show beside the book of its run (profile).
use Rattle.std.specs.Prelude.{◌≡◌, ◌⊎◌, ℕ, ◌≤◌, Some, All}
use Rattle.history_model.specs.Minutes.{HistoryMinute}
use Rattle.history_model.specs.Book.{Book, all, IsMark}
use Rattle.run_unit_course.specs.Legs.{Travel}

-- The unit may show this last-kept minute and this leg: the last-kept minute is one of the book's, no earlier than a
-- sure one, and the leg is that of the sure minutes or that of the minute of which the keeping was broken off; behind
-- that one's mark, that one's.
pub record MayShow (first : ℕ) (b : Book) (g : Travel) (kept leg : ℕ) : Type 0 where
  pub mark : IsMark first (all b) kept
  pub low : All (λ i. i.minute ≤ kept) b.sure
  pub side : (leg ≡ g.sure) ⊎ (g.maybe ≡ Some leg)
  pub behind : (i : HistoryMinute) → b.maybe ≡ Some i → kept ≡ i.minute → g.maybe ≡ Some leg

-- What the calls on the days of a card do after Ok, each in one record.
use Rattle.std.specs.Prelude.{ℕ, ◌+◌, ◌*◌, ◌≤◌, ◌<◌, ◌≢◌, List, [], length, IfSome}
use Rattle.tach_media.specs.Medium.{State, IsSettled, last_count}
use Rattle.card_model.specs.Days.{Day}
use Rattle.card_model.specs.Changes.{trimmed, until}
use Rattle.card_model.specs.Image.{StringShape, HoldsDays}
use Rattle.card_days.specs.Held.{Held, Knows}
use Rattle.card_days.specs.Moments.{IfKnown, KnowsChanged, ClearsChanged, KnowsBegun, ClearsBegun, BeginsAgain}
use Rattle.card_days.specs.Plans.{most_drops}
use Rattle.card_days.specs.Steps.{SameDays, IsDropMended, SettlesIfSettled}
use Rattle.card_days.specs.Trim.{IsTrim, IsTrimmed, WritesOrReads}

-- A WORD WAS ADDED to the newest day, and what is kept of the days is of the new ones: they are known; where a day has
-- gone no length stands before the oldest; and at most two bytes more are used than before, less 14 for each day that
-- may have to go
pub record AddedWord (s next : Held) (word : ℕ) (U V : State) : Type 0 where
  pub knows : IfSome U.image (λ x. IfSome V.image (KnowsChanged s next word x))
  pub cleared : IfSome U.image (λ x. IfSome V.image (ClearsChanged s word x))
  pub used : next.tail.used + 14 * most_drops s.shape.size s.tail.used 2 ≤ s.tail.used + 2

-- A DAY WAS BEGUN with these words, and what is kept of the days is of the new ones: they are known; where a day has
-- gone, or the new one is the first, no length stands before the oldest; a string without a day begins again where it
-- stood
pub record BeganDay (s next : Held) (date : ℕ) (words : List ℕ) (U V : State) : Type 0 where
  pub knows : IfSome U.image (λ x. IfSome V.image (KnowsBegun s next date words x))
  pub cleared : IfSome U.image (λ x. IfSome V.image (ClearsBegun s date words x))
  pub again : IfSome U.image (λ x. IfSome V.image (BeginsAgain s date words x))

-- A DROP THAT WAS CUT SHORT WAS ENDED: the days are the same, and known; no length stands before the oldest, and all
-- else is as before; and where there was a day a stop leaves the image alone
pub record EndedDrop (s : Held) (U V : State) : Type 0 where
  pub same : IfSome U.image (λ x. IfSome V.image (IfKnown s (SameDays s.shape) x))
  pub mended : IfSome U.image (λ x. IfSome V.image
      (λ y. (days : List Day) → Knows s x days → IsDropMended s.shape days x y))
  pub knows : IfSome U.image (λ x. IfSome V.image (λ y. (days : List Day) → Knows s x days → Knows s y days))
  pub settled : 0 < s.tail.used → V.clock < last_count → IsSettled V

-- THE DAYS WERE TRIMMED to a minute: the image is so; where there was a day a stop leaves the image alone, and so where
-- it did before
pub record TrimmedDays (r : StringShape) (minute : ℕ) (U V : State) : Type 0 where
  pub is : IfSome U.image (λ x. IfSome V.image (IsTrim r minute x))
  pub settled : IfSome U.image (λ x. (days : List Day) → HoldsDays r x days → days ≢ []
      → V.clock < last_count → IsSettled V)
  pub still : SettlesIfSettled U V

-- THE DAYS WERE CUT behind a minute: the image is so, and what is kept is of the days that stayed; where there was a
-- day a stop leaves the image alone, and so where it did before
pub record CutDays (s next : Held) (minute : ℕ) (U V : State) : Type 0 where
  pub is : IfSome U.image (λ x. IfSome V.image (IsTrim s.shape minute x))
  pub knows : IfSome U.image (λ x. IfSome V.image
      (λ y. (days : List Day) → HoldsDays s.shape x days → Knows next y (trimmed minute days)))
  pub settled : IfSome U.image (λ x. (days : List Day) → HoldsDays s.shape x days → days ≢ []
      → V.clock < last_count → IsSettled V)
  pub still : SettlesIfSettled U V

-- THE DAYS FROM A DATE ON WERE DROPPED: the image is so; a write was made and a stop leaves the image alone, or there
-- were reads alone; and no more writes were begun than there were days to drop
pub record DroppedDays (r : StringShape) (date : ℕ) (U V : State) : Type 0 where
  pub trimmed : IfSome U.image (λ x. IfSome V.image (IsTrimmed r date x))
  pub settled : WritesOrReads U V
  pub drops : IfSome U.image (λ x. (days : List Day) → HoldsDays r x days
      → V.clock + length (until date days) ≤ U.clock + length days)

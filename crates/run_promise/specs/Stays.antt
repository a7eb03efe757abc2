-- What is known of unit and card before a step and behind it, where of the step itself the rules alone are known
-- (profile).
use Rattle.std.specs.Prelude.{◌⊎◌, ℕ, ◌<◌, ◌≤◌, List, ◌++◌, All, Contains}
use Rattle.run_course.specs.trace_model.declared.Card.{Card}
use Rattle.tach_media.specs.Medium.{State}
use Rattle.unit_rule.specs.card_image.View.{CardView}
use Rattle.run_course.specs.history_model.Minutes.{card_history}
use Rattle.run_course.specs.history_model.Presence.{CardStart}
use Rattle.run_course.specs.history_model.Book.{Book}
use Rattle.unit_rule.specs.device_rule.Views.{UnitView}
use Rattle.unit_rule.specs.device_rule.Rules.{Standing, CardDark}
use Rattle.unit_rule.specs.device_rule.Marked.{of_card}
use Rattle.run_promise.specs.Found.{Found, found_of, unit_seen, AnyKept}
use Rattle.run_promise.specs.Cards.{brought_by}

-- end marks do not fall: each image that a stop may leave now is preceded by one whose end mark was not later
abbrev pub NoMarkFalls : (old new : State) → Type 0
NoMarkFalls old new = (x : CardView) → (of_card new).may_leave x
    → (w : CardView) × (of_card old).may_leave w × (w.mark ≤ x.mark)

-- of a card's entries those that a book has beyond another's sure minutes are later than a minute
abbrev pub AddsLater : Card → CardStart → ℕ → (old new : Book) → Type 0
AddsLater c start k old new = All (λ e. Contains (start.owed ++ card_history c old.sure) e ⊎ (k < e.minute))
    (brought_by c start new)

-- THE STEP. The rule that joins unit and card holds before it and behind it, each time as the book and the standing are
-- then; the unit had kept what the book was sure of; no end mark falls; and what comes to the card's entries is later
-- than a minute.
pub record IsStep (f : Found) (c : Card) (k : ℕ) (b d : Book) (y z : Standing)
    (old_unit old_card new_unit new_card : State) : Type 0 where
  pub some : (u : List ℕ) × old_unit.may_leave u
  pub sure : (u : UnitView) → (unit_seen f old_unit).may_leave u → All (λ i. i.minute ≤ u.last) b.sure
  pub before : CardDark c (found_of f c).start AnyKept (found_of f c).began b y (unit_seen f old_unit)
      (of_card old_card)
  pub behind : CardDark c (found_of f c).start AnyKept (found_of f c).began d z (unit_seen f new_unit)
      (of_card new_card)
  pub rises : NoMarkFalls old_card new_card
  pub adds : AddsLater c (found_of f c).start k b d

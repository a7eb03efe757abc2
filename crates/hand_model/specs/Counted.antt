-- The words of a card's days with entries by hand.
pub use Rattle.card_image.specs.card_retention.ByHand.{with_by_hand, on_day, and_by_hand}

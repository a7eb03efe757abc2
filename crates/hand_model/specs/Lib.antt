pub mod Manual
pub mod ByHand
pub mod Counted
pub mod Holding
pub mod Written
pub mod AtStart
pub use Rattle.card_image.specs as card_image

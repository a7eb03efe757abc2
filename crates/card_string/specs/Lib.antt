pub mod Carried
pub mod Shows
pub mod Closes
pub mod Inserts
pub mod Deeds
pub mod Since
pub mod Each
pub use Rattle.card_by_hand.specs.hand_model as hand_model

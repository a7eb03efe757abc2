pub mod Cards
pub mod Cabin
pub use Rattle.card_slots.specs as card_slots
pub use Rattle.log_model.specs as log_model

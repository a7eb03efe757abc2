pub mod Sessions
pub mod Moves
pub mod Ended
pub use Rattle.card_slots.proofs as card_slots
pub use Rattle.log_model.proofs as log_model

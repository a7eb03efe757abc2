pub mod Rows
pub mod DaysBeside
pub mod Beside
pub mod Newest
pub use Rattle.card_retention.proofs.card_model as card_model
pub use Rattle.card_retention.proofs as card_retention

pub mod Giving
pub mod Verdicts
pub mod Whole
pub mod Issued
pub mod StopRows
pub use Rattle.device_rule.proofs.card_model as card_model
pub use Rattle.card_string.proofs as card_string
pub use Rattle.device_rule.proofs as device_rule
pub use Rattle.card_string.proofs.hand_model as hand_model

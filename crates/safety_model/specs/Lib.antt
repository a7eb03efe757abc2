pub mod Recording
pub mod Unit
pub mod Hands
pub mod Cards
pub mod ByHand
pub mod Stops
pub mod Safe
pub mod Side
pub use Rattle.device_rule.specs.card_image as card_image
pub use Rattle.device_rule.specs.card_model as card_model
pub use Rattle.device_rule.specs.card_retention as card_retention
pub use Rattle.card_string.specs as card_string
pub use Rattle.device_rule.specs as device_rule
pub use Rattle.card_string.specs.hand_model as hand_model

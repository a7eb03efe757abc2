pub mod Records
pub mod Messages
pub mod Sending
pub mod Showing
pub use Rattle.card_layout.specs as card_layout
pub use Rattle.unit_model.specs.minute_model as minute_model
pub use Rattle.unit_model.specs as unit_model

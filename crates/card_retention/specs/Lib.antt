pub mod Expected
pub mod Shown
pub mod Entries
pub mod Retains
pub mod ByHand
pub use Rattle.activity_codec.specs as activity_codec
pub use Rattle.card_model.specs as card_model

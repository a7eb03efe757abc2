pub mod Calls
pub mod Moments
pub mod Steps
pub mod Trim
pub mod Heads
pub mod Held
pub mod Plans
pub mod Loading
pub mod Rears
pub use Rattle.card_model.specs as card_model

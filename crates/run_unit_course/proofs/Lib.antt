pub mod Lines
pub mod Turns
pub mod Spans
pub mod Alike
pub mod Parts
pub mod Ties
pub mod Resting
pub mod Lighted
pub mod Cutting
pub mod Steps
pub mod Seconds
pub mod Causing
pub mod Offs
pub mod Rows
pub mod Legs
pub mod Travelled
pub use Rattle.history_model.proofs as history_model
pub use Rattle.minute_model.proofs as minute_model

pub mod Carried
pub mod Standing
pub mod Few
pub mod Indices
pub mod Same
pub mod Notes
pub mod Actions
pub mod Spans
pub use Rattle.log_model.proofs as log_model

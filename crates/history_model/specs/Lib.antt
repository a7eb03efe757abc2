pub mod Minutes
pub mod Presence
pub mod History
pub mod Completeness
pub mod Book
pub mod Growth
pub use Rattle.log_model.specs as log_model
pub use Rattle.log_model.specs.run_model as run_model

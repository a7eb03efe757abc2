pub mod Turn
pub mod Lines
pub mod Keeping
pub mod Followed
pub mod Complete
pub mod Caused
pub mod Legs
pub mod Travelled
pub use Rattle.history_model.specs as history_model
pub use Rattle.log_model.specs as log_model
pub use Rattle.minute_model.specs as minute_model
pub use Rattle.run_model.specs as run_model
pub use Rattle.trace_model.specs as trace_model

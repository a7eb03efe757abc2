pub mod Log
pub mod Slots
pub mod Course
pub mod ByHand
pub mod Spans
pub mod Same
pub mod Causes
pub use Rattle.activity_codec.specs as activity_codec
pub use Rattle.run_model.specs.minute_model as minute_model
pub use Rattle.run_model.specs as run_model
pub use Rattle.trace_model.specs as trace_model

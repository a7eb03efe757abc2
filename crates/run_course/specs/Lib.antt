pub mod Moments
pub mod Presence
pub mod Followed
pub mod Seconds
pub mod Within
pub mod Complete
pub mod Caused
pub mod Travelled
pub mod Quiet
pub mod Dark
pub mod Reached
pub mod Lines
pub mod Moment
pub mod Telling
pub mod Kept
pub use Rattle.activity_codec.specs as activity_codec
pub use Rattle.history_model.specs as history_model
pub use Rattle.log_model.specs as log_model
pub use Rattle.minute_model.specs as minute_model
pub use Rattle.run_model.specs as run_model
pub use Rattle.trace_model.specs as trace_model

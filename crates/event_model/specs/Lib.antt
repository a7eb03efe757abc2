pub mod Kinds
pub mod Runs
pub mod Spans
pub mod Places
pub mod Kept
pub mod Events
pub mod Counted
pub use Rattle.activity_codec.specs as activity_codec
pub use Rattle.trace_model.specs as trace_model

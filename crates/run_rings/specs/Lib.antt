pub mod Carried
pub mod Same
pub mod Notes
pub mod Spans
pub use Rattle.log_model.specs as log_model
pub use Rattle.note_model.specs as note_model

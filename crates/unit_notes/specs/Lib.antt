pub mod Entries
pub mod Tables
pub mod Noting
pub mod Journal
pub mod Fields
pub mod Retention
pub use Rattle.event_model.specs as event_model
pub use Rattle.note_model.specs as note_model

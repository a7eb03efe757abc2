pub mod Shown
pub mod Seconds
pub mod Gaps
pub mod Choice
pub mod Running
pub mod Entries
pub mod Watching
pub mod Noting
pub mod Writes
pub mod Blocks
pub mod Watched
pub mod Turned
pub mod Fed
pub use Rattle.activity_codec.specs as activity_codec
pub use Rattle.card_files.specs as card_files
pub use Rattle.gated_ring.specs as gated_ring
pub use Rattle.message_model.specs as message_model
pub use Rattle.run_course.specs as run_course
pub use Rattle.speed_store.specs.run_rings as run_rings
pub use Rattle.run_speeds.specs as run_speeds
pub use Rattle.speed_model.specs as speed_model
pub use Rattle.speed_store.specs as speed_store
pub use Rattle.unit_events.specs as unit_events
pub use Rattle.unit_notes.specs as unit_notes

pub mod Shows
pub mod Frames
pub mod Unsure
pub mod Growing
pub mod Later
pub mod Sure
pub mod Leading
pub mod Gaps
pub mod Ordered
pub mod Choosing
pub mod Notes
pub mod Running
pub mod Quiet
pub mod Offs
pub mod Crews
pub mod WatchFed
pub mod Noted
pub mod Minutes
pub mod NoteSpeeds
pub mod Behind
pub mod Newest
pub mod Pairs
pub mod Turned
pub mod CrewsFed
pub use Rattle.activity_codec.proofs as activity_codec
pub use Rattle.card_files.proofs as card_files
pub use Rattle.gated_ring.proofs as gated_ring
pub use Rattle.run_course.proofs as run_course
pub use Rattle.speed_store.proofs.run_rings as run_rings
pub use Rattle.run_speeds.proofs as run_speeds
pub use Rattle.speed_store.proofs as speed_store
pub use Rattle.unit_events.proofs as unit_events
pub use Rattle.unit_notes.proofs as unit_notes

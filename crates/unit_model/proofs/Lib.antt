mod Rows
pub mod Sized
pub mod Retention
pub mod Checks
pub mod New
pub mod Words
pub mod States
pub mod Growth
pub mod Commits
pub mod Numbers
pub mod Slots
pub mod StillDecodes
pub mod WordsGood
pub mod Turning
pub mod Failing
pub mod Decoded
pub mod Finding
pub mod KeptDecodes
pub mod AddedDecodes
pub mod Emptying
pub mod KeptDays
pub mod Rising
pub mod LastDay
pub mod FilledWhole
pub mod WholeDays
pub mod Front
pub mod Recorded
pub mod Versions
pub use Rattle.gated_ring.proofs as gated_ring
pub use Rattle.minute_model.proofs as minute_model

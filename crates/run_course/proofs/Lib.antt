pub mod Moments
pub mod Lookups
pub mod Presence
pub mod Logs
pub mod Alike
pub mod Ties
pub mod Core
pub mod Told
pub mod Steps
pub mod Within
pub mod New
pub mod Deciding
pub mod Complete
pub mod Staying
pub mod Caused
pub mod Reckoned
pub mod Travelled
pub mod Quiet
pub mod Dark
pub mod Rows
pub mod Reached
pub mod Lines
pub mod Moment
pub mod Telling
pub mod Failing
pub mod Kept
pub mod Cutting
pub use Rattle.history_model.proofs as history_model
pub use Rattle.log_model.proofs as log_model
pub use Rattle.minute_model.proofs as minute_model

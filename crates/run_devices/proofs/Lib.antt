pub mod Presence
pub mod Strung
pub mod Parts
pub mod Holders
pub mod OnCards
pub mod NotedCard
pub mod Entries
pub mod Registered
pub mod Measured
pub mod CardUse
pub mod Used
pub mod Sessions
pub mod Noted
pub mod Begun
pub mod Left
pub mod StringMore
pub mod Power
pub mod Opened
pub mod Accounted
pub mod Replayed
pub mod Marked
pub mod Entered
pub mod Woken
pub mod Known
pub mod HandsCome
pub mod Travelled
pub mod Putting
pub use Rattle.run_crew.proofs.card_slots as card_slots
pub use Rattle.device_calls.proofs.device_rule as device_rule
pub use Rattle.device_calls.proofs.hand_model as hand_model
pub use Rattle.device_calls.proofs.history_model as history_model
pub use Rattle.run_crew.proofs.log_model as log_model
pub use Rattle.device_calls.proofs.minute_model as minute_model
pub use Rattle.run_promise.proofs.run_course as run_course
pub use Rattle.run_crew.proofs as run_crew
pub use Rattle.run_promise.proofs as run_promise
pub use Rattle.device_calls.proofs.run_unit_course as run_unit_course
pub use Rattle.device_calls.proofs.unit_rule as unit_rule

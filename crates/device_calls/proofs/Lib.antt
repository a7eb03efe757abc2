pub mod EntryOwed
pub mod MinuteKept
pub mod OnCard
pub mod MinuteSaid
pub mod RowBegun
pub mod PowerBack
pub mod PutIn
pub mod Ported
pub mod Noted
pub mod Inserted
pub mod Enters
pub mod RowAlone
pub mod Passed
pub mod CardNoted
pub mod Told
pub mod TornOut
pub mod SizesRead
pub mod StringReady
pub mod Travel
pub mod Times
pub mod TimedCalls
pub mod Places
pub use Rattle.card_by_hand.proofs as card_by_hand
pub use Rattle.card_session.proofs.card_days as card_days
pub use Rattle.card_files.proofs as card_files
pub use Rattle.card_validity.proofs.card_image as card_image
pub use Rattle.unit_rule.proofs.card_model as card_model
pub use Rattle.card_by_hand.proofs.card_retention as card_retention
pub use Rattle.card_session.proofs as card_session
pub use Rattle.unit_rule.proofs.card_string as card_string
pub use Rattle.card_validity.proofs as card_validity
pub use Rattle.unit_rule.proofs.device_rule as device_rule
pub use Rattle.card_session.proofs.gated_ring as gated_ring
pub use Rattle.hand_model.proofs as hand_model
pub use Rattle.unit_rule.proofs.history_model as history_model
pub use Rattle.unit_rule.proofs.minute_model as minute_model
pub use Rattle.unit_rule.proofs.run_unit_course as run_unit_course
pub use Rattle.unit_rule.proofs.safety_model as safety_model
pub use Rattle.unit_rule.proofs as unit_rule

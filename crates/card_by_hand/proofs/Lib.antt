pub mod Counting
pub mod Staying
pub mod Over
pub mod Card
pub mod Wider
pub mod Listed
pub mod Newest
mod Rows
pub mod Chain
pub mod Along
pub mod FirstLaws
pub mod Silent
pub mod Written
pub mod Told
pub mod Fresh
pub mod Telling
pub use Rattle.hand_model.proofs.card_image as card_image
pub use Rattle.card_session.proofs.card_model as card_model
pub use Rattle.card_session.proofs.card_retention as card_retention
pub use Rattle.card_session.proofs as card_session
pub use Rattle.hand_model.proofs as hand_model

pub mod Rising
pub mod Behinds
pub mod Meeting
pub mod Checking
pub mod Copies
pub mod Slices
pub mod Walking
pub mod Places
pub mod Verdicts
pub mod Newest
pub mod Telling
pub mod Faults
pub use Rattle.card_image.proofs as card_image
pub use Rattle.card_image.proofs.card_retention as card_retention

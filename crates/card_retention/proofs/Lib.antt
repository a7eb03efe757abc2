pub mod Core
pub mod Growing
pub mod Entering
pub mod Stops
pub mod Flat
pub mod Closing
pub mod Newest
pub mod Retaining
pub mod Starting
pub mod Moments
pub mod Checked
pub mod Rows
pub mod Stub
pub mod Listing
pub mod Committing
pub mod ListTrims
pub mod Due
pub use Rattle.card_model.proofs as card_model

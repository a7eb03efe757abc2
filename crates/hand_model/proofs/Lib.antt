pub mod Words
pub mod Lists
pub mod OfDay
pub mod Written
pub mod Told
pub mod Cuts
pub mod Contained
mod Rows
pub use Rattle.card_image.proofs as card_image

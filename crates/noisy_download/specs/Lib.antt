pub mod Rounds
pub mod Listing

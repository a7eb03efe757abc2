pub mod Listed
pub mod Underway
pub mod Going
pub mod Rounds
pub mod Happening

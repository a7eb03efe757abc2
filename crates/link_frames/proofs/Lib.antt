pub mod Turns
pub mod Pieces
pub mod Checking
pub mod Runs
pub mod Parts

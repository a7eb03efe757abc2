pub mod Parts
pub mod Units
pub mod Days
pub mod Cards
pub mod Pieces
pub mod Written

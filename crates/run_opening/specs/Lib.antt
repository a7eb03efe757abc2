pub mod Units
pub mod Cards
pub mod Opening
pub mod Begun
pub mod Calls

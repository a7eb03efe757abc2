pub mod Units
pub mod Cards
pub mod Devices
pub mod Values
pub mod Lines

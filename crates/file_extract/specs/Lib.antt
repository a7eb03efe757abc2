pub mod Cards
pub mod Reading
pub mod Passing
pub mod Part
pub mod Judged
pub mod Units
pub mod OddDays

pub mod Dated
pub mod Joining
pub mod ToldCards
pub mod ToldUnits

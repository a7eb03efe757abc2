pub mod Telling
pub mod InTime

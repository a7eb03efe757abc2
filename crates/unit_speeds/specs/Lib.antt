pub mod Speeds
pub mod Text

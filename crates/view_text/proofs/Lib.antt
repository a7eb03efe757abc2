pub mod More
pub mod Texts
pub mod Hands

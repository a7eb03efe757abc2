pub mod Names
pub mod Codes
pub mod Dates
pub mod Texts
pub mod Groups
pub mod Shown
pub mod Kinds

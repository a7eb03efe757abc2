pub mod Cutting
pub mod Joining
pub mod Rows
pub mod Texts

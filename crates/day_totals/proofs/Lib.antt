pub mod AddUp
pub mod ByDay
pub mod Counting
pub mod Joining
pub mod SameDays
mod Rows

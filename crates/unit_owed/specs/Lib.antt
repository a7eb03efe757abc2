pub mod Owed
pub mod Rows
pub mod Standing
pub mod Searching

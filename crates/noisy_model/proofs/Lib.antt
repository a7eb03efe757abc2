pub mod Lists
pub mod Arriving
pub mod Leading
pub mod Requests
pub mod Spelling
mod Rows

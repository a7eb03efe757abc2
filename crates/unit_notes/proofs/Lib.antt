pub mod Types
pub mod Choosing
pub mod Noted
pub mod Fronts
pub mod Counting
pub mod Withdrawing
pub mod EntryFields
pub mod Placing
pub mod Journals
pub mod AfterRun
mod Rows

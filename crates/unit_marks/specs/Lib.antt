pub mod Marks
pub mod Sorted
pub mod Entries
pub mod Cards

pub mod Counted
pub mod Drawing
pub mod Joining
pub mod Marked
mod Rows

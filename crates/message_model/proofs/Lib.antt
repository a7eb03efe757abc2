pub mod Showing
pub mod Answering
pub mod Reading
pub mod Rows

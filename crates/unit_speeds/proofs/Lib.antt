pub mod Laid
pub mod Telling
pub mod Lines
mod Rows

pub mod Leaving
pub mod Speeds
pub mod Blocks
pub mod Spans

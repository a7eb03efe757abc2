pub mod Speeds
pub mod Spans

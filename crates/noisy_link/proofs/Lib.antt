pub mod Bringing
pub mod Talking
pub mod Whole
pub mod Told
pub mod Stepping

pub mod Turning
pub mod Saying
pub mod Lost
pub mod Year

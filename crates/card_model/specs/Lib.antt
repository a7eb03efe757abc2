pub mod Bytes
pub mod Days
pub mod Image
pub mod Walk
pub mod Checks
pub mod Changes

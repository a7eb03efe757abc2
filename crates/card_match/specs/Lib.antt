pub mod Matching
pub mod Differences
pub mod Cases
pub mod Files
pub mod Faults
pub mod Text
pub mod Exact

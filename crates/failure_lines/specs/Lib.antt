pub mod Failures
pub mod Lacks
pub mod Refusals
pub mod Timed
pub mod Turned

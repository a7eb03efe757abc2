pub mod Trace
pub mod Names

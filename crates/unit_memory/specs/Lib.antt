pub mod Fault
pub mod Formats
pub mod Scans
pub mod Walks
pub mod Judging
pub mod Identified
pub mod Upgrades

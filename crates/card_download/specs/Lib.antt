pub mod Faults
pub mod Copied
pub mod Written
pub mod Readable

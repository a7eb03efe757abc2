pub mod Speeding
pub mod Bare

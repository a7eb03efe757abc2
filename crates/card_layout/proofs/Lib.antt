pub mod Numbers
pub mod Cuts
pub mod Images
pub mod Fields
pub mod Spelled
mod Rows
pub mod Ranges
pub mod Sizes
pub mod ApplicationLemmas

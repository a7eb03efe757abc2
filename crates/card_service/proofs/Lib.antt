pub mod Parts
pub mod Cards
pub mod Hearing
pub mod Answering
pub mod Turning

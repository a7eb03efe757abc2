pub mod Hands
pub mod Heads
pub mod Printing

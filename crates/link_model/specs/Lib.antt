pub mod Frames
pub mod Hearing
pub mod Writing
pub mod Answers

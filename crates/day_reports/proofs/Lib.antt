pub mod HandMarks
pub mod Shown
pub mod Told

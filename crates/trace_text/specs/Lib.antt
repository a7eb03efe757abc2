pub mod Text
pub mod Line
pub mod RunLines
pub mod Trace
pub mod Judged
pub mod Coming
pub mod Reading
pub mod Demo

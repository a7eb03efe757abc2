pub mod Bars
pub mod Marks
pub mod Frame
pub mod Chart

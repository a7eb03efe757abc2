pub mod Empty
pub mod Runs
pub mod Ordered
pub mod DayRuns
pub mod EachDay
mod Rows

pub mod Exact
pub mod Seeing
pub mod Gaps
pub mod Runs
pub mod DaysOf
pub mod DayLines

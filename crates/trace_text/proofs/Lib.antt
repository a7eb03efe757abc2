pub mod Texts
pub mod Numbering
pub mod Inverse
pub mod Grammar
pub mod PutIn
pub mod Few
pub mod Passed
pub mod Once
pub mod LinesRead
pub mod Runs
pub mod Answered
mod Worked
pub mod Groups
pub mod Pushed
pub mod Formed
mod Rows

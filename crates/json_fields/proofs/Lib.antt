pub mod Cutting
pub mod Days
pub mod Forms
pub mod Fronts
pub mod Objects
mod Records
pub mod Taking
pub mod Telling
pub mod Rows

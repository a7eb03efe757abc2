pub mod Commands
pub mod Issue
pub mod Layers
pub mod Outcomes
pub mod Fields
pub mod Images
pub mod Application
pub mod Files

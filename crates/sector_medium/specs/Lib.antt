pub mod Disk
pub mod Files
pub mod Redo
pub mod RedoLaws
pub mod Recovered

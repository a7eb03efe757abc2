pub mod Told
pub mod Lines
pub mod Served
pub mod ServedLines
pub mod Asked

pub mod Names
pub mod Pieces
pub mod Lines

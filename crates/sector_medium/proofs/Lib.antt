pub mod Redos
pub mod Lifts
pub mod Moves
pub mod Known
pub mod Laying
pub mod Untouched
pub mod Tearing

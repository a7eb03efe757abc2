pub mod Plain
pub mod Noted
pub mod Shown

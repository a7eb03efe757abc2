pub mod Laws
pub mod Putting
pub mod Taking
pub mod Mending
pub mod Pieces
pub mod Beginning
pub mod Known
mod Worked
mod Least
pub mod Standing
mod Finding
mod Counting
mod Sanity

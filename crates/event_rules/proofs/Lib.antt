pub mod Sums
pub mod Fast
pub mod InARow
pub mod Without

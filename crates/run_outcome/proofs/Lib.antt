pub mod Items
pub mod Seams
pub mod Broken

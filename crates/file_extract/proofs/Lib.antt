pub mod Spelling
pub mod Downloads
pub mod Passed
pub mod Exact
pub mod Fronts
pub mod Placing
pub mod OddFiles

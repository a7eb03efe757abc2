pub mod Tapes
pub mod Wires
pub mod Ending
pub mod Measures

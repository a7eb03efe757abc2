pub mod Text
pub mod Exact
pub mod Growing
pub mod Adding
pub mod Entries
pub mod ByHand

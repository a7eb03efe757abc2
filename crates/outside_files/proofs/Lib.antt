pub mod NameLemmas
pub mod Rows

pub mod Empty
pub mod Laid
pub mod Telling
pub mod Dated
pub mod Fronts
pub mod TellingMarks
pub mod TellingCards
mod Rows

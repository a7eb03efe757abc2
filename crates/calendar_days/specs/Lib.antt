pub mod Calendar
pub mod Clock

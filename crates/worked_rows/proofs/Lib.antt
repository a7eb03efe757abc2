pub mod WorkedMinutes
pub mod WorkedRuns
pub mod WordsOfDays
mod Ports

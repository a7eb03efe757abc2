pub mod RunLemmas
pub mod SpanLemmas
pub mod Retaining
pub mod Daily
pub mod Noting
pub mod Similar
mod WorkedSpans
mod WorkedPlaces
mod WorkedEvents

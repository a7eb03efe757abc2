pub mod Done
pub mod Odometer
pub mod Noted
pub mod Rings
pub mod Events
pub mod Tables
pub mod Unsure
pub use Rattle.message_model.specs.Records
pub use Rattle.event_model.specs as event_model

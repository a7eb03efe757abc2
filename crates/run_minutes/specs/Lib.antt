pub mod Keeping
pub mod Minutes
pub mod CardEvents
pub mod CardDeeds
pub mod Deeds
pub mod Books
pub mod Owing
pub mod Decided
pub mod Faults
pub mod Later
pub mod Stand
pub mod Kept
pub mod Writes
pub mod Calls
pub use Rattle.card_slots.specs as card_slots
pub use Rattle.run_devices.specs as run_devices
pub use Rattle.run_devices.specs.run_promise as run_promise
pub use Rattle.unit_memory.specs as unit_memory

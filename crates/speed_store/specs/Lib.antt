pub mod Feeding
pub mod Faults
pub mod Stores
pub mod Finding
pub use Rattle.event_model.specs as event_model
pub use Rattle.gated_ring.specs as gated_ring
pub use Rattle.run_rings.specs.log_model as log_model
pub use Rattle.run_rings.specs.note_model as note_model
pub use Rattle.run_rings.specs as run_rings
pub use Rattle.speed_model.specs as speed_model
pub use Rattle.event_model.specs.trace_model as trace_model
pub use Rattle.unit_model.specs as unit_model

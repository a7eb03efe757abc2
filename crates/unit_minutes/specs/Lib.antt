pub mod Coming
pub mod Minute
pub mod Keeping
pub mod Image
pub mod Kept
pub mod Mends
pub mod Today
pub mod Reading
pub mod DaysWith
pub mod Writes
pub mod Plans
pub mod Beside
pub mod DayOdometers
pub mod Calls
pub use Rattle.activity_codec.specs as activity_codec
pub use Rattle.gated_ring.specs as gated_ring
pub use Rattle.tacho_types.specs as tacho_types
pub use Rattle.unit_model.specs as unit_model
pub use Rattle.unit_owed.specs as unit_owed

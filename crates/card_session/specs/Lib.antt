pub mod Books
pub mod Telling
pub mod Sessions
pub mod Moments
pub mod Vehicles
pub mod Cards
pub mod Parts
pub mod Inserting
pub mod Overwriting
pub mod Repairs
pub mod ByHand
pub use Rattle.card_days.specs as card_days
pub use Rattle.card_files.specs as card_files
pub use Rattle.card_days.specs.card_model as card_model
pub use Rattle.card_validity.specs.card_retention as card_retention
pub use Rattle.gated_ring.specs as gated_ring
pub use Rattle.tacho_types.specs as tacho_types

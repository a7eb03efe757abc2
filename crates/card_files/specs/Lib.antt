pub mod Reading
pub mod NewCard
pub mod Vehicles
pub mod Events
pub mod CurrentUses
pub mod Rings
pub mod Noting
pub use Rattle.card_layout.specs as card_layout
pub use Rattle.gated_ring.specs as gated_ring
pub use Rattle.tach_media.specs as tach_media

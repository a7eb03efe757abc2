pub mod Layout
pub mod Days
pub mod Image
pub mod Retention
pub mod Decoding
pub mod NewImage
pub mod Changes
pub mod Writing
pub mod Cells
pub use Rattle.gated_ring.specs.Ring
pub mod Versions
pub use Rattle.gated_ring.specs as gated_ring
pub use Rattle.minute_model.specs as minute_model

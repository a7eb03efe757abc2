pub mod Chip
pub mod Counting
pub mod Log
pub mod LogLaws
pub mod Medium
pub mod MemMedium
pub mod MemStreams
pub mod SliceMedium
pub mod Streams
pub mod Untold
pub mod Plan
pub mod Held
pub use Rattle.card_layout.specs as card_layout

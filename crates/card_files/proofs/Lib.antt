mod ReadingLemmas
mod NewCardLemmas
pub mod Changes
mod Parts
pub mod Sets
pub use Rattle.card_layout.proofs as card_layout
pub use Rattle.gated_ring.proofs as gated_ring
pub use Rattle.tach_media.proofs as tach_media

pub mod Lending
pub mod Breakdowns
pub mod Chunks
pub mod Images
pub mod Ranges
pub mod Runs
mod MediumRows
mod MemoryLaws
mod Parts
pub mod Plans
pub mod Looping
pub use Rattle.card_layout.proofs as card_layout

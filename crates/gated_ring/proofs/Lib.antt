pub mod AddedAs
pub mod Adding
pub mod Behind
pub mod Dense
pub mod Elsewhere
pub mod Filling
pub mod Listing
pub mod Newest
pub mod NewestMoments
pub mod Orders
pub mod Others
pub mod Places
pub mod Planned
pub mod Putting
pub mod Rows
pub mod Steps
pub mod Writing
pub use Rattle.tach_media.proofs.card_layout as card_layout
pub use Rattle.tach_media.proofs as tach_media

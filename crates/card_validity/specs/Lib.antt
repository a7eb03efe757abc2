pub mod Walks
pub mod Words
pub mod Judged
pub mod Faults
pub use Rattle.card_image.specs as card_image
pub use Rattle.card_image.specs.card_retention as card_retention

pub mod Change
pub mod Earliest
pub mod Loading
pub mod Plans
pub mod Ring
pub mod Searching
pub use Rattle.tach_media.specs.card_layout as card_layout
pub use Rattle.tach_media.specs as tach_media

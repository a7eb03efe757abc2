pub mod Fields
pub mod Judging
pub mod View
pub mod Own
pub mod Beside
pub mod CardFile
pub use Rattle.card_files.specs as card_files
pub use Rattle.card_files.specs.card_layout as card_layout
pub use Rattle.card_retention.specs.card_model as card_model
pub use Rattle.card_retention.specs as card_retention

pub mod Clear
pub mod Over
pub mod Wider
pub mod Listed
pub mod First
pub use Rattle.activity_codec.specs as activity_codec
pub use Rattle.card_session.specs.card_files as card_files
pub use Rattle.hand_model.specs.card_image as card_image
pub use Rattle.card_session.specs.card_model as card_model
pub use Rattle.card_session.specs.card_retention as card_retention
pub use Rattle.card_session.specs as card_session
pub use Rattle.card_session.specs.gated_ring as gated_ring
pub use Rattle.hand_model.specs as hand_model
pub use Rattle.card_session.specs.tacho_types as tacho_types

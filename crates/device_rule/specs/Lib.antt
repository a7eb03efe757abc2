pub mod Views
pub mod Device
pub mod Steps
pub mod Rules
pub mod Filling
pub mod Marked
pub use Rattle.card_image.specs.Fields
pub use Rattle.card_image.specs.Own
pub use Rattle.card_image.specs.View
pub use Rattle.activity_codec.specs as activity_codec
pub use Rattle.card_image.specs.card_files as card_files
pub use Rattle.card_image.specs as card_image
pub use Rattle.card_model.specs as card_model
pub use Rattle.card_retention.specs as card_retention
pub use Rattle.history_model.specs as history_model
pub use Rattle.history_model.specs.log_model as log_model
pub use Rattle.minute_model.specs as minute_model
pub use Rattle.history_model.specs.run_model as run_model
pub use Rattle.trace_model.specs as trace_model
pub use Rattle.unit_model.specs as unit_model
pub use Rattle.view_model.specs as view_model

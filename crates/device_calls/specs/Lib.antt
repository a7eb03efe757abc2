pub mod Rule
pub mod OnCard
pub mod Minute
pub mod Entering
pub mod CardNotes
pub mod Travel
pub mod Times
pub mod Calls
pub use Rattle.unit_notes.specs.Journal
pub use Rattle.activity_codec.specs as activity_codec
pub use Rattle.card_by_hand.specs as card_by_hand
pub use Rattle.card_commands.specs as card_commands
pub use Rattle.card_session.specs.card_days as card_days
pub use Rattle.card_files.specs as card_files
pub use Rattle.card_validity.specs.card_image as card_image
pub use Rattle.unit_rule.specs.card_model as card_model
pub use Rattle.unit_rule.specs.card_retention as card_retention
pub use Rattle.card_session.specs as card_session
pub use Rattle.unit_rule.specs.card_string as card_string
pub use Rattle.card_validity.specs as card_validity
pub use Rattle.unit_rule.specs.device_rule as device_rule
pub use Rattle.unit_notes.specs.event_model as event_model
pub use Rattle.card_session.specs.gated_ring as gated_ring
pub use Rattle.hand_model.specs as hand_model
pub use Rattle.unit_rule.specs.history_model as history_model
pub use Rattle.unit_rule.specs.minute_model as minute_model
pub use Rattle.unit_notes.specs.note_model as note_model
pub use Rattle.unit_rule.specs.run_model as run_model
pub use Rattle.unit_rule.specs.run_unit_course as run_unit_course
pub use Rattle.unit_rule.specs.safety_model as safety_model
pub use Rattle.tacho_types.specs as tacho_types
pub use Rattle.trace_model.specs as trace_model
pub use Rattle.unit_minutes.specs as unit_minutes
pub use Rattle.unit_minutes.specs.unit_model as unit_model
pub use Rattle.unit_minutes.specs.unit_owed as unit_owed
pub use Rattle.unit_rule.specs as unit_rule

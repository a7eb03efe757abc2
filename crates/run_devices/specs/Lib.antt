pub mod Presence
pub mod Registered
pub mod Measured
pub mod Sessions
pub mod Strung
pub mod Told
pub use Rattle.device_calls.specs.card_by_hand as card_by_hand
pub use Rattle.device_calls.specs.card_image as card_image
pub use Rattle.device_calls.specs.card_retention as card_retention
pub use Rattle.device_calls.specs.card_session as card_session
pub use Rattle.run_crew.specs.card_slots as card_slots
pub use Rattle.device_calls.specs as device_calls
pub use Rattle.device_calls.specs.device_rule as device_rule
pub use Rattle.device_calls.specs.event_model as event_model
pub use Rattle.device_calls.specs.hand_model as hand_model
pub use Rattle.device_calls.specs.history_model as history_model
pub use Rattle.run_crew.specs.log_model as log_model
pub use Rattle.device_calls.specs.minute_model as minute_model
pub use Rattle.device_calls.specs.note_model as note_model
pub use Rattle.run_promise.specs.run_course as run_course
pub use Rattle.run_crew.specs as run_crew
pub use Rattle.device_calls.specs.run_model as run_model
pub use Rattle.run_promise.specs as run_promise
pub use Rattle.device_calls.specs.run_unit_course as run_unit_course
pub use Rattle.device_calls.specs.safety_model as safety_model
pub use Rattle.device_calls.specs.tacho_types as tacho_types
pub use Rattle.device_calls.specs.trace_model as trace_model
pub use Rattle.device_calls.specs.unit_minutes as unit_minutes
pub use Rattle.device_calls.specs.unit_model as unit_model
pub use Rattle.device_calls.specs.unit_rule as unit_rule

pub mod Rule
pub mod Marks
pub mod Written
pub mod Odometer
pub mod Complete
pub mod OtherRows
pub use Rattle.safety_model.specs.Cards
pub use Rattle.safety_model.specs.Recording
pub use Rattle.safety_model.specs.Safe
pub use Rattle.safety_model.specs.Unit
pub use Rattle.safety_model.specs.card_image as card_image
pub use Rattle.safety_model.specs.card_model as card_model
pub use Rattle.safety_model.specs.card_retention as card_retention
pub use Rattle.safety_model.specs.card_string as card_string
pub use Rattle.safety_model.specs.device_rule as device_rule
pub use Rattle.safety_model.specs.hand_model as hand_model
pub use Rattle.run_unit_course.specs.history_model as history_model
pub use Rattle.run_unit_course.specs.log_model as log_model
pub use Rattle.run_unit_course.specs.minute_model as minute_model
pub use Rattle.run_unit_course.specs.run_model as run_model
pub use Rattle.run_unit_course.specs as run_unit_course
pub use Rattle.safety_model.specs as safety_model
pub use Rattle.unit_minutes.specs.tacho_types as tacho_types
pub use Rattle.unit_minutes.specs as unit_minutes
pub use Rattle.unit_minutes.specs.unit_model as unit_model
pub use Rattle.unit_minutes.specs.unit_owed as unit_owed

pub mod Keeping
pub mod Beginning
pub mod Cells
pub mod Putting
pub mod Mended
pub mod New
pub mod Moves
pub mod Marking
pub mod Mending
pub mod Found
pub mod Writing
pub mod Travelling
pub mod KeptDays
pub mod Elsewhere
pub mod Completing
pub mod Safety
pub mod Worked
pub mod RowsOn
pub mod OtherRows
pub use Rattle.safety_model.proofs.card_model as card_model
pub use Rattle.safety_model.proofs.card_string as card_string
pub use Rattle.safety_model.proofs.device_rule as device_rule
pub use Rattle.unit_minutes.proofs.gated_ring as gated_ring
pub use Rattle.safety_model.proofs.hand_model as hand_model
pub use Rattle.run_unit_course.proofs.history_model as history_model
pub use Rattle.run_unit_course.proofs.minute_model as minute_model
pub use Rattle.run_unit_course.proofs as run_unit_course
pub use Rattle.safety_model.proofs as safety_model
pub use Rattle.unit_minutes.proofs.unit_model as unit_model

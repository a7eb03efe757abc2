pub mod Besides
pub mod Keeping
pub mod Behind
pub mod Beginning
pub mod Closing
pub mod Premises
pub mod Told
pub mod Mending
pub mod Beside
pub mod Equal
pub mod MendPlan
pub mod DayOdometers
pub mod WrittenDays
pub mod Mended
mod MendRows
pub mod KeptBits
pub mod Scanning
pub mod Loading
pub mod IfAny
pub mod Shown
pub mod Minutes
pub mod Planned
pub mod Renewing
pub mod KeepPlan
pub mod DaysWith
pub mod Retaining
pub mod MendedOwed
mod OwedBeside
pub mod Refused
pub use Rattle.activity_codec.proofs as activity_codec
pub use Rattle.gated_ring.proofs as gated_ring
pub use Rattle.unit_model.proofs as unit_model
pub use Rattle.unit_owed.proofs as unit_owed

pub mod Fitting
pub mod Tallies
pub mod Iterated
pub mod Growing
pub mod Selecting
pub mod Feeding
pub mod Classing
pub mod Giving
pub mod GoingOn
pub mod Parts
pub use Rattle.minute_model.proofs as minute_model

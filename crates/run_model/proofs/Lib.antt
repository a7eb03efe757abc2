pub mod LeftToRight
pub use Rattle.minute_model.proofs as minute_model

pub mod Growth
pub mod Spanning
mod ByHandRows
pub use Rattle.run_model.proofs.minute_model as minute_model

pub mod Counting
pub mod Feeding
pub mod BlockFinding
pub mod Held
mod WorkedWrites
pub use Rattle.gated_ring.proofs as gated_ring
pub use Rattle.run_rings.proofs.log_model as log_model
pub use Rattle.run_rings.proofs as run_rings

pub mod Viewed
pub mod Owing
pub mod Pairs
pub mod CardLaws
pub mod UnitLaws
pub mod KeepLaws
pub mod EnterLaws
pub mod Opening
pub mod Holding
pub mod Repairing
pub mod Simple
pub mod OwedView
pub mod Brought
pub mod Overwriting
pub mod Rows
pub mod Staying
pub use Rattle.card_model.proofs as card_model
pub use Rattle.history_model.proofs as history_model
pub use Rattle.unit_model.proofs as unit_model

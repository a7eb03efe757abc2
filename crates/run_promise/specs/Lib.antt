pub mod Found
pub mod Cards
pub mod Between
pub mod Opening
pub mod Accounts
pub mod Going
pub mod Stays
pub mod Origin
pub mod Seconds
pub mod Days
pub mod Ends
pub mod Beside
pub mod Whole
pub use Rattle.unit_rule.specs.Marks
pub use Rattle.unit_rule.specs.Rule
pub use Rattle.run_course.specs as run_course

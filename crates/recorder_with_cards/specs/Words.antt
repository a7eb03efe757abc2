-- Words of the layers below that a caller of this crate speaks of: with them its line in crates.txt names none of these
-- layers.
pub use Rattle.run_minutes.specs.Books.{HaveTime}
pub use Rattle.run_minutes.specs.Later.{IsLater, AreAfter}
pub use Rattle.run_acts.specs.Going.{largest_number, IsFoundLater}
pub use Rattle.run_acts.specs.Recording.{log_of}
pub use Rattle.run_acts.specs.Stood.{StoodExactly}
pub use Rattle.run_acts.specs.OnCards.{accepted_on, met_seconds, ShowsOn, AreUses}
pub use Rattle.run_acts.specs.run_note_record.Uses.{vehicle_of}

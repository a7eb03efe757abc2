pub mod KeptEvents
pub mod EventCrews
pub mod NotedEvents
pub mod Entered
pub mod Rounds
pub mod RoundLaws
pub mod Acting
pub mod Behind
pub mod Power
pub mod Going
pub mod Room
pub mod Turning
pub mod Booked
pub mod Stays
pub mod Recording
pub mod Noting
pub mod Settling
pub mod Devices
pub mod Faults
pub mod Speeds
pub mod Named
pub mod Evented
pub mod ActsEvented
pub mod Ringing
pub mod RunRinged
pub mod CardNotes
pub mod OnCards
pub mod RunCards
pub mod Stood
pub mod Keepings
pub mod Acts
pub mod CardWrites
pub mod Closings
pub mod Comings
pub mod Writes
pub mod Words
pub mod Truths
pub mod Owed
pub mod ByHand
pub use Rattle.run_events.specs.message_model as message_model
pub use Rattle.run_events.specs.run_course as run_course
pub use Rattle.run_crew.specs as run_crew
pub use Rattle.run_events.specs as run_events
pub use Rattle.run_note_record.specs as run_note_record
pub use Rattle.run_record.specs as run_record
pub use Rattle.run_events.specs.run_rings as run_rings
pub use Rattle.run_events.specs.run_speeds as run_speeds
pub use Rattle.run_events.specs.speed_model as speed_model
pub use Rattle.run_events.specs.speed_store as speed_store
pub use Rattle.run_events.specs.unit_events as unit_events
pub use Rattle.unit_notes.specs as unit_notes

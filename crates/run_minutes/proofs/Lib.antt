pub mod Units
pub mod Sessions
pub mod Fates
pub mod Seats
pub mod Counts
pub mod Rounds
pub mod Decided
pub mod FirstEnds
pub mod FirstSame
pub mod FirstTold
pub mod FirstMeasured
pub mod OnTheCard
pub mod EntryPut
pub mod MinuteOwed
pub mod MinuteBegun
pub mod MarksOn
pub mod HandsOn
pub mod CardBrought
pub mod CardEvents
pub mod CardDeeds
pub mod Deeds
pub mod CardBooked
pub mod Brought
pub mod MinuteBooked
pub mod DecidedBooked
pub mod MarksBooked
pub mod Faults
pub mod Speeds
pub mod OnUnit
pub mod Later
pub mod Calm
pub mod Rests
pub mod Goes
pub mod SoFar
pub mod Writes
pub use Rattle.card_slots.proofs as card_slots
pub use Rattle.run_devices.proofs as run_devices
pub use Rattle.run_devices.proofs.run_promise as run_promise

pub mod Entering
pub mod Noted
pub mod CardEvents
pub mod CardBrought
pub mod Entered
pub mod Told
pub mod Calls
pub mod Writes

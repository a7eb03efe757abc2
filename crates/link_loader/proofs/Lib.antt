pub mod Reading
pub mod Behind
pub mod FrameKinds
pub mod Closing
pub mod Exact
mod Rows
pub mod OneWay
pub mod Rest
pub mod Answered
pub mod Transfers
pub mod Together
pub mod Downloading
pub mod Taking
pub mod Short
pub mod ImageParts
pub mod ImageDays
pub mod ImageMessages

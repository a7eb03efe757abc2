pub mod Seen
pub mod Scanning
pub mod Steps
pub mod Asking
pub mod Sending
pub mod Running

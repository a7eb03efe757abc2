pub mod Asking
pub mod FirstMessage

pub mod Performing
pub mod Ports
pub mod Sending
pub mod Written

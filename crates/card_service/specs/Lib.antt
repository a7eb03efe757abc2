pub mod Packets
pub mod Answering
pub mod Serving

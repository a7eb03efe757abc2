pub mod Datagrams
pub mod Serving
pub mod Loading

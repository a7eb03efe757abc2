pub mod Told
pub mod AsItWas
pub mod Began

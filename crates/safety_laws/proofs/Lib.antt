pub mod Sitting
pub mod Moments
pub mod Again
pub mod OneFile
pub mod Handing

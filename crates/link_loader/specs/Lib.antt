pub mod Stages
pub mod Coming
pub mod Loading
pub mod Talking

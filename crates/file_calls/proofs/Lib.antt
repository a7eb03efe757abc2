pub mod At
pub mod FirstDay
pub mod Counted
pub mod OneCard
pub mod OneAnswer
pub mod FirstMessage

pub mod Copying
pub mod Loading
pub mod Moved
pub mod OneList
pub mod Told
pub mod ReadBack
pub mod Rows

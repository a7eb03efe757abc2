mod Cutting
mod Days
mod Overviews
mod Fronts
mod Pieces
mod Windows
pub mod Calls
mod Choosing
mod Passing
mod Counting
mod Ahead
pub mod SentDays
mod Joints
mod Rings
mod Contents
mod Lengths
mod Dating
mod Outlining
mod Faulting

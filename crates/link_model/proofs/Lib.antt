pub mod Shapes
pub mod Bytes
pub mod WorkedFrames
pub mod Runs
pub mod WorkedAnswers
pub mod Fitting
pub mod Cutting

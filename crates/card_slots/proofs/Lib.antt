pub mod Leaving
pub mod Calling
pub mod Newest
pub mod Refusing
pub mod Agreeing
mod WorkedCalls

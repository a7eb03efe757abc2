pub mod Told
mod Worked

pub mod InShort

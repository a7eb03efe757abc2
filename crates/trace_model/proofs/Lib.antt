pub mod LeftToRight

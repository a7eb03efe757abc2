pub mod Numbers
pub mod Decimal
pub mod CardNumber
pub mod Places
pub mod Texts

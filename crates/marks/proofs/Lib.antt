pub mod Digits
pub mod Places

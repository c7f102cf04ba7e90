pub mod Places
pub mod Plain
pub mod Tracing
pub mod Arriving
pub mod Flag

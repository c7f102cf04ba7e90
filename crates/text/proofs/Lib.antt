pub mod Puts
pub mod Rows
pub mod Bounds

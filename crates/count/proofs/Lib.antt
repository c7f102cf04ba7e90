pub mod Flat
pub mod Counting
pub mod Steps
pub mod Rows

pub mod Layer
pub mod Sums
pub mod Group

pub mod Divides
pub mod Fits
pub mod Table
pub mod Search

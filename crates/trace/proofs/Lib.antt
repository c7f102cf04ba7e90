pub mod Scanning
pub mod Level
pub mod All
pub mod Refusals
pub mod Zeros

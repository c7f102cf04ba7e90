pub mod Pigeon
pub mod Orbit
pub mod On
pub mod Walk
pub mod Partition
pub mod Scan

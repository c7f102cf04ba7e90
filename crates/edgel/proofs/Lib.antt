pub mod Witness
pub mod Beside

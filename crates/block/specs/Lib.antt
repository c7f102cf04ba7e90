pub mod Block
pub mod Damage

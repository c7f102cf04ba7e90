pub mod Witness
pub mod Lines
pub mod Parts
pub mod West
pub mod Answers
pub mod States

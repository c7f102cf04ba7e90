pub mod Rows
pub mod Exactly
pub mod Edges
pub mod Sides
pub mod Levels
pub mod Border
pub mod Witness

pub mod Piece
pub mod Part

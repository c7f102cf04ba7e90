pub mod Piece
pub mod Curve
pub mod Surface

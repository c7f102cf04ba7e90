pub mod Layout
pub mod Picture

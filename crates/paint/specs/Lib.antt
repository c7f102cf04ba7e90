pub mod Part
pub mod Member
pub mod Paint
pub mod Span

pub mod Position
pub mod Tree
pub mod Article
pub mod Call

pub mod Grammar
pub mod Reader
pub mod Call
pub mod Writer

pub mod Line
pub mod List

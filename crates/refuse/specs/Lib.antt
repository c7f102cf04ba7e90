pub mod Refusal
pub mod Told
pub mod Hot
pub mod Shape
pub mod Ends

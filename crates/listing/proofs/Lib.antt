pub mod Call
pub mod Answered
pub mod Room
pub mod Told
pub mod Page

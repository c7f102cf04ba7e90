pub mod Small
pub mod Stepped
pub mod Storage

pub mod Words
pub mod Stride

pub mod Witness
pub mod Ends
pub mod Told
pub mod Lowest
pub mod Between
pub mod Floats

pub mod Note
pub mod Walk
pub mod Made

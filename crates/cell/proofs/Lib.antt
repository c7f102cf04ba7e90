pub mod Witness
pub mod Five
pub mod Rule
pub mod Quarter
pub mod Signed
pub mod Saddle
pub mod Steps

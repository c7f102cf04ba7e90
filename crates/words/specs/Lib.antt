pub mod Fit
pub mod Listed

pub mod Witness
pub mod Divisor
pub mod Twos
pub mod Reduced
pub mod Quotient

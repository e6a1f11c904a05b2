pub mod Arithmetic
pub mod Limits
pub mod Sums

pub mod Products
pub mod Roundings
pub mod Sums
pub mod Within

pub mod Enough
pub mod Telling

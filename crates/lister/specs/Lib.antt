pub mod Lines
pub mod Tells
pub mod Text

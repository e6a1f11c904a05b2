pub mod Numbers
pub mod Fields
pub mod Canonical
pub mod RoundTrip
pub mod Written

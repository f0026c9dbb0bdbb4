pub mod Unsent
pub mod Refused

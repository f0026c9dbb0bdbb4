pub mod Closures
pub mod Codes

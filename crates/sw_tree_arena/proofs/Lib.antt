pub mod Growing
pub mod Backwards

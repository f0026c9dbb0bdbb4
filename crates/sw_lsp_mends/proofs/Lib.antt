pub mod Offering
pub mod Searching

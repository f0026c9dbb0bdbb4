pub mod Counts
pub mod Profile
pub mod Simple
pub mod Values

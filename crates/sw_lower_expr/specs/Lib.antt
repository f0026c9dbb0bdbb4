pub mod Operations
pub mod Walked

pub mod Accessing
pub mod Races

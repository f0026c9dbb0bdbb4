pub mod Walked
pub mod Ill

pub mod Kept
pub mod Said
pub mod Steps

pub mod Acting
pub mod Chosen
pub mod Steps
pub mod Theorem

pub mod Documents
pub mod Law
pub mod Served
pub mod Session
pub mod Steps

pub mod Isolated
pub mod Known

pub mod Parts
pub mod Stating

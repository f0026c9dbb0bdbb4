pub mod Coloured
pub mod Named
pub mod Reached

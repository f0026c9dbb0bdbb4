pub mod Armless
pub mod Inner
pub mod Weighed

pub mod Initialised
pub mod Lowered
pub mod Ordered

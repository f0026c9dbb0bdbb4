pub mod Unwritten
pub mod Values
pub mod Parts
pub mod Sizes

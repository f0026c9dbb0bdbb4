pub mod Below
pub mod Headers
pub mod Parts
pub mod Values
pub mod Blocks

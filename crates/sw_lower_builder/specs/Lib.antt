pub mod Blocks
pub mod Unfinished

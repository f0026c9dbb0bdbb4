pub mod Moves
pub mod Others
pub mod Computing

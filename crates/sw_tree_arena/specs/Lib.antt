pub mod Nodes
pub mod Sites
pub mod Operations
pub mod Parts

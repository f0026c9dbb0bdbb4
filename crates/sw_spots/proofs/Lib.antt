pub mod Going
pub mod Joining
pub mod Writing
pub mod Turning

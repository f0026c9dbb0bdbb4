pub mod Memory
pub mod Secure
pub mod Painting
pub mod Executing

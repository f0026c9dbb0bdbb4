pub mod Flowing
pub mod Isolated
pub mod Programs
pub mod Quiet
pub mod Storing

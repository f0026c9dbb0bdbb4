pub mod Later
pub mod Allowed
pub mod Joining
pub mod Steps
pub mod Asking
pub mod Giving
pub mod Kinds

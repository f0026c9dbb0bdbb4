pub mod Accessing
pub mod Claims
pub mod Insiders
pub mod Excluding

pub mod Declared
pub mod Needs

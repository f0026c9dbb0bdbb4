pub mod Declared
pub mod Lists
pub mod Programs
pub mod Said
pub mod Types

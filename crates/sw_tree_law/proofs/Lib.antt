pub mod Facts
pub mod Output
pub mod Texts

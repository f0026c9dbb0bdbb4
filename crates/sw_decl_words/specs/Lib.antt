pub mod Evident
pub mod Members
pub mod Placed
pub mod Shaped
pub mod TypeWords
pub mod Words

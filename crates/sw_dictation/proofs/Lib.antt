pub mod Numerals
pub mod Prefixes
pub mod Reading
pub mod Sharing
pub mod Among
pub mod Deciding

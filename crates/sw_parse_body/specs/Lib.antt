pub mod Phrases
pub mod Wanted

-- What is found in lists, and what holds of each of their elements.
pub mod Found
pub mod Joined
pub mod Listed

-- The functions of a program by their numbers.
pub mod Entries
pub mod Places
pub mod Starts

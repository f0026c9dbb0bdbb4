-- Each type that a program names is declared in it.
pub mod Wanting
pub mod Arms
pub mod Calls
pub mod Closures
pub mod Lookups
pub mod Noted
pub mod Programs
pub mod Senses
pub mod Statements
pub mod Tables
pub mod Verdicts
pub mod Words

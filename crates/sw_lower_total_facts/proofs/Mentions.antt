-- What a tree mentions is seen around it, or declared in it.
pub mod Bases
pub mod Closures
pub mod Declared
pub mod Expressions
pub mod Induction
pub mod Notes
pub mod Seen
pub mod Silent
pub mod Statements
pub mod Words

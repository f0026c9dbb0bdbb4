pub mod Bodies
pub mod Expressions
pub mod Induction
pub mod Lists
pub mod Statements
pub mod Steps
pub mod Switches

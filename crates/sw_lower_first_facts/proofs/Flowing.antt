-- Code of expressions goes on at its end alone.
pub mod Expressions
pub mod Joining
pub mod Logic
pub mod Steps

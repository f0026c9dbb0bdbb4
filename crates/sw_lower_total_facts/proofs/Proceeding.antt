-- Code that asks for nothing that isn't known: each step, code after code, and what is known of
-- variables in between.
pub mod Blocks
pub mod Each
pub mod Give
pub mod Ready
pub mod Steps
pub mod Then
pub mod Using

-- The code of each form of statement is safe where that of its parts is.
pub mod Assigning
pub mod Blocks
pub mod Branches
pub mod Cases
pub mod Declaring
pub mod Ignoring
pub mod Leaving
pub mod Loops
pub mod Patterns
pub mod Sequences
pub mod Stating
pub mod Switches

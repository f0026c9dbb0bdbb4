-- The code of statements and blocks asks for nothing that isn't known.
pub mod Assigning
pub mod Beginning
pub mod Blocks
pub mod Bounds
pub mod Branches
pub mod Cases
pub mod Declaring
pub mod Fronts
pub mod Ignoring
pub mod Leaving
pub mod Loops
pub mod NotBoxed
pub mod Patterns
pub mod Stating
pub mod Switches
pub mod Writing

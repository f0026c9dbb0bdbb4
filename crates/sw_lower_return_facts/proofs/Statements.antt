pub mod Arms
pub mod Branches
pub mod Leaving
pub mod Loops
pub mod Passing
pub mod Sequences
pub mod Switches
pub mod Truth

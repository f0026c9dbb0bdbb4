pub mod Agreement
pub mod Checks
pub mod Demos
pub mod Found
pub mod Leaves
pub mod Pairs
pub mod Standing

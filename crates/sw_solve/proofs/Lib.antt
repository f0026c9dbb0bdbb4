pub mod Members
pub mod Spreading
pub mod Solving
pub mod Rising
pub mod Chains
pub mod Least
pub mod Points

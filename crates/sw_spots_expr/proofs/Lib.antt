pub mod Calls
pub mod Chains
pub mod Closures
pub mod Expressions
pub mod Logic
pub mod Members
pub mod Words
pub mod Writes

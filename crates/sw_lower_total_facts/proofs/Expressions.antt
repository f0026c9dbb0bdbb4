-- Expressions ask for nothing that isn't known.
pub mod Bases
pub mod Callees
pub mod Calls
pub mod Chains
pub mod Kinds
pub mod Members
pub mod Mentioned
pub mod Methods
pub mod Reading
pub mod Senses
pub mod Shapes
pub mod Simple
pub mod Uses
pub mod Words
pub mod Writing

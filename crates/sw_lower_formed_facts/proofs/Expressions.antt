-- The code of each form of expression is safe where that of its parts is.
pub mod Arguments
pub mod Callees
pub mod Calling
pub mod Calls
pub mod Chains
pub mod Literals
pub mod Logic
pub mod Members
pub mod Methods
pub mod Operators
pub mod Parts
pub mod Senses
pub mod Typed
pub mod Values
pub mod Variables
pub mod Words
pub mod Writes

-- A function that is made of code that fits is one of a well-formed graph.
pub mod Blocks
pub mod FunctionFits
pub mod Payloads
pub mod Points
pub mod Ranges
pub mod SetFirst
pub mod Takes

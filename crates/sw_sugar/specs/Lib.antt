pub mod AsyncLet
pub mod Calls
pub mod Optionals
pub mod Rewritten
pub mod Tasks

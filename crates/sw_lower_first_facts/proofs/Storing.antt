-- What gives a global variable its first value stores it before it returns.
pub mod Blocks
pub mod Firsts
pub mod Points

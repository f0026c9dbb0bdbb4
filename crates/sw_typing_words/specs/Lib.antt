pub mod Outer
pub mod Callees
pub mod Scopes

pub mod Members
pub mod Kinds
pub mod Entries
pub mod Parts
pub mod Texts
pub mod Found
pub mod Programs

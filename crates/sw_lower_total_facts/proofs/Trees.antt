-- What is known of the node of a tree: its key, its type, and whether it names an enum.
pub mod Enums
pub mod Keys
pub mod Places
pub mod Types

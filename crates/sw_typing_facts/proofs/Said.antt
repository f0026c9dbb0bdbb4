-- What is said of the nodes of a program: each key once, and what it means that no node is ill.
pub mod Counts
pub mod EnumBases
pub mod EnumNames
pub mod Once
pub mod OneAnswer
pub mod Programs
pub mod Rows
pub mod TreeRows

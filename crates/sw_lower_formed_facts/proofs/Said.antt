-- What is said of the nodes of a program: each key once, and what it means that no node is ill.
pub mod Answers
pub mod RowsOf

-- The keys of a program tell scopes: a variable is declared by tokens before those of all that it is
-- declared for, and the closures that its words stand in are among these.
pub mod Ids
pub mod Weights
pub mod Sequences
pub mod OrLiteral
pub mod Parts
pub mod Nodes
pub mod Formed
pub mod Declaring
pub mod Members
pub mod OrScopes
pub mod Told

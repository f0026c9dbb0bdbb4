-- Where a tree stands, its parts stand: what is noted of their keys is noted of them.
pub mod Closing
pub mod Closures
pub mod Covering
pub mod Declared
pub mod Expressions
pub mod NoteForms
pub mod Noting
pub mod Ordered
pub mod Own
pub mod Owners
pub mod Parts
pub mod Programs
pub mod ScopeForms
pub mod Scopes
pub mod Seen
pub mod Statements
pub mod Trees

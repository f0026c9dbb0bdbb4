-- The code of expressions and blocks declares no variable that is seen after it.
pub mod Codes
pub mod Expressions

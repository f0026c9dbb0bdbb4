-- What is known of the declarations of a program: their numbers, keys, names, members and shapes.
pub mod CasesDiffer
pub mod OwnParts
pub mod PropKeys
pub mod SimpleInside

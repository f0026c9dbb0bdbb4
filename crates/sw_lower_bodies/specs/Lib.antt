pub mod Inside
pub mod Trees

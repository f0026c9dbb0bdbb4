pub mod Annotation
pub mod Ways
pub mod Work
pub mod Marks
pub mod Chain
pub mod Layout

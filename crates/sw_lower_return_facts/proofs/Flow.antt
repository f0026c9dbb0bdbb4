pub mod Going
pub mod Marks
pub mod Quiet
pub mod Steps
pub mod Then

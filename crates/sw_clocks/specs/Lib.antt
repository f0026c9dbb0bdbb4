pub mod Links
pub mod Channel
pub mod Rows
pub mod Steps

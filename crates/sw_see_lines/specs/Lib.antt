pub mod Around
pub mod Excerpt
pub mod Shown

pub mod Painting
pub mod Remedies
pub mod Shown

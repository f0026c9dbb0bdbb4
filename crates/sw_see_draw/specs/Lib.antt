pub mod Covers
pub mod Layout
pub mod Marking
pub mod Markup
pub mod Marks
pub mod Paints
pub mod Picture
pub mod Shapes

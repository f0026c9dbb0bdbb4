pub mod Names
pub mod Parents
pub mod Tints
pub mod Palette
pub mod Changes
pub mod Plans
pub mod Machine
pub mod Ranges

pub mod Views
pub mod Inside
pub mod Colours
pub mod Calls
pub mod Crossings
pub mod Returns
pub mod Unreached

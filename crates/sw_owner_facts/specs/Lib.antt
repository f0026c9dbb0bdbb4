pub mod Colours
pub mod View
pub mod Owned
pub mod Within
pub mod Calls
pub mod Sketch
pub mod Premises

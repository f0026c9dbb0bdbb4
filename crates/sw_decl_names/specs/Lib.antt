pub mod Bodies
pub mod Repeats

pub mod Bodies
pub mod Ended
pub mod Reached

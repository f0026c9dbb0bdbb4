pub mod Begun
pub mod Ending
pub mod Entering
pub mod Makers

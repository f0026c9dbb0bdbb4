pub mod Closures
pub mod Places
pub mod Readings
pub mod Results
pub mod Steps
pub mod Switches
pub mod Variables

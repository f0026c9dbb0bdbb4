pub mod Alone
pub mod Runs
pub mod Steps

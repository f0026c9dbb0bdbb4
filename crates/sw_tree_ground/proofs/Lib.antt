pub mod Names
pub mod Getters
pub mod Standing
pub mod Starting
pub mod Running

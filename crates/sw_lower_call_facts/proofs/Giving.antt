pub mod Deep
pub mod Functions
pub mod Getters
pub mod Held
pub mod OwnTasks
pub mod Places
pub mod Programs
pub mod Tasks

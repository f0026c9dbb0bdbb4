pub mod Beginning
pub mod Branching
pub mod Declaring
pub mod Leaving
pub mod Looping
pub mod Parting
pub mod Stating
pub mod Switching

pub mod Calls
pub mod Carried
pub mod Given
pub mod Making
pub mod Meant
pub mod Owning
pub mod Taking
pub mod Writing

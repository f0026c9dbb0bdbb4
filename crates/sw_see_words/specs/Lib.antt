pub mod Given
pub mod Tool
pub mod Words

pub mod Given
pub mod Read
pub mod Tool
pub mod Words

pub mod Takes
pub mod WholeFacts

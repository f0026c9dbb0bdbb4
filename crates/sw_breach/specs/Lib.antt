pub mod Codes
pub mod LineStarts
pub mod Lines
pub mod Order

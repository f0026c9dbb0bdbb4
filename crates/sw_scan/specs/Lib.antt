pub mod Scan
pub mod Reading
pub mod Classes
pub mod Decimal
pub mod Prefixes

pub mod Agreement
pub mod ScanLaws
pub mod Turns
pub mod Positions
pub mod Digits
pub mod Prefixes

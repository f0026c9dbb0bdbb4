pub mod Covering
pub mod Giving
pub mod Truth

pub mod Footprint
pub mod Location

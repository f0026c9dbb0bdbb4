pub mod Regions
pub mod Effects
pub mod Rank
pub mod Tables
pub mod Laws
pub mod Monotone

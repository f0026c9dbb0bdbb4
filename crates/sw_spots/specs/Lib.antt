pub mod Doing
pub mod Forms
pub mod Making
pub mod Spots

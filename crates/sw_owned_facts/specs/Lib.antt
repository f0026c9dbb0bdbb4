pub mod Holding
pub mod Owned
pub mod Taking

pub mod Knowing
pub mod Informed
pub mod Taking

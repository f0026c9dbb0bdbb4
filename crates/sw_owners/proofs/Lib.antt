pub mod OwnerSteps
pub mod Turns

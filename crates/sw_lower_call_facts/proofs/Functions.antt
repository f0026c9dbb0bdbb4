pub mod Makers
pub mod Methods
pub mod Owners
pub mod Signed
pub mod Taking

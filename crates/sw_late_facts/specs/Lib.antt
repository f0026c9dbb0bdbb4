pub mod Late
pub mod Alike
pub mod Hues
pub mod Carriers
pub mod Owners

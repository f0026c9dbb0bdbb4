pub mod Apart
pub mod Made

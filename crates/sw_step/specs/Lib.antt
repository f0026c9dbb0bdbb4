pub mod Checked
pub mod Event

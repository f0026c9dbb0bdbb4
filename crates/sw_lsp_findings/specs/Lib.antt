pub mod Findings
pub mod Hovers
pub mod Sections
pub mod Settings

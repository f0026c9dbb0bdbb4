pub mod Call
pub mod Claims
pub mod Lines
pub mod Phases
pub mod Programs
pub mod Reply

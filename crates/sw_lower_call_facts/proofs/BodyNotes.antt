pub mod Members
pub mod Noted
pub mod Programs
pub mod Trees

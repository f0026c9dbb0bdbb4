pub mod Answers
pub mod Callees
pub mod Noted
pub mod Rules

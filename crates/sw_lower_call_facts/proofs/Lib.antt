pub mod BodyNotes
pub mod Calls
pub mod Functions
pub mod Giving
pub mod Holding
pub mod KindNotes
pub mod Meant
pub mod Writing

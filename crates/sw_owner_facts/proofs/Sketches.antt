pub mod Same
pub mod Tests
pub mod Reading
pub mod Moves
pub mod Premises

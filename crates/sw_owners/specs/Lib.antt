pub mod Lines
pub mod Owners
pub mod Replay

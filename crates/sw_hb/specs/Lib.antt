pub mod Entries
pub mod Latest
pub mod Table
pub mod Events
pub mod History
pub mod Clocked
pub mod Replay

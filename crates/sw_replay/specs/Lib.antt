pub mod Items
pub mod Left
pub mod Output
pub mod Reading
pub mod Replay

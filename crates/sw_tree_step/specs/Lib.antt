pub mod State
pub mod Frames
pub mod Acting
pub mod Working
pub mod Step
pub mod Items
pub mod Examples

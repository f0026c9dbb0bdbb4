pub mod FrameRegions
pub mod Moves
pub mod Calling
pub mod Rows
pub mod Annotated

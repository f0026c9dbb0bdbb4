pub mod Happenings
pub mod Position
pub mod Watches

pub mod Labeling
pub mod Linking
pub mod Bits
pub mod Marking
pub mod Effecting
pub mod Answering
pub mod Including
pub mod Uniting

pub mod KindFound
pub mod Answering

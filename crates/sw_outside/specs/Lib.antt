pub mod Counts
pub mod MemShelf
pub mod MemSink
pub mod Rise
pub mod Shelf
pub mod Sink
pub mod SteadyShelf

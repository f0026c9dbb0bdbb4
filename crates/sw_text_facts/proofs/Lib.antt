pub mod Supplied
pub mod Graphs
pub mod Sound

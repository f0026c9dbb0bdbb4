pub mod Closure
pub mod Events
pub mod Before
pub mod Unordered
pub mod Channels
pub mod Clocks
pub mod Rivals

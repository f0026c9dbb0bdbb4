pub mod Bodies
pub mod Forms
pub mod Graphs
pub mod Placing
pub mod Settling
pub mod Uses

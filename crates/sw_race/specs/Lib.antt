pub mod Index
pub mod Live
pub mod Step
pub mod Target
pub mod Uses
pub mod With

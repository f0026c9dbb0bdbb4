pub mod AccessLemmas
pub mod BusyLemmas
pub mod JobLemmas
pub mod ListLemmas
pub mod RaceLemmas
pub mod ReachLemmas
pub mod StaysInBounds
pub mod TransitionLemmas

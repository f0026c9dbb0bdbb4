pub mod ActorNames
pub mod Decided
pub mod Found
pub mod Judged
pub mod Phases
pub mod Verdict

pub mod HappeningLemmas
pub mod WatchLemmas

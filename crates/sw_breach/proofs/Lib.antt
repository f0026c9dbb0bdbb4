pub mod CodeLemmas
pub mod LineSearch
pub mod LineSteps

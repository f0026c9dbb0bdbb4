pub mod RowLemmas
pub mod StepLemmas
pub mod CountLemmas
pub mod AddingLemmas
pub mod CallerLemmas

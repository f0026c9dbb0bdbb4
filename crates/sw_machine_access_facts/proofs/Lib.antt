pub mod AccessLemmas
pub mod CellLemmas
pub mod ContentLemmas
pub mod LocationLemmas
pub mod NextLemmas
pub mod ReadLemmas
pub mod WriteLemmas

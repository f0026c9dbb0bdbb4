pub mod Doing
pub mod FetchLemmas
pub mod Inversions
pub mod LawfulParts
pub mod ReadLemmas
pub mod WriteLemmas

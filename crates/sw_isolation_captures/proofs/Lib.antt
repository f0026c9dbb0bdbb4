pub mod FirstsLemmas
pub mod PlaceLemmas

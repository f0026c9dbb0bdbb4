pub mod PlaceLemmas
pub mod DoubtLemmas
pub mod TableLemmas

pub mod ScopeLemmas
pub mod SlotLemmas

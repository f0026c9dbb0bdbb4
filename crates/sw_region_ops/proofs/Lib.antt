pub mod BlockLemmas
pub mod ContextLemmas
pub mod EntryLemmas
pub mod RangeLemmas
pub mod RunLemmas
pub mod SiteLemmas

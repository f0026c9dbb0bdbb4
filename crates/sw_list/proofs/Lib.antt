pub mod ListLemmas
pub mod Members

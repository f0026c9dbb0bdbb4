pub mod Removed
pub mod NamesLemmas
pub mod PaletteLemmas
pub mod NumberLemmas
pub mod RangeLemmas
pub mod PlanRanges

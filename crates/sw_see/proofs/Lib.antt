pub mod ClaimLemmas
pub mod ExitLemmas
pub mod PartLemmas
